-- The rule of entries.
use Rattle.std.specs.Prelude.{Bool, true, false, ◌&&◌, ◌||◌, not, ℕ, ◌+◌, nat_eq, List, [], ◌∷◌, length, Option, Some, None, slice_get}
use Rattle.aq_term.specs.declared.entry.Entry.{Entry}
use Rattle.aq_term.specs.declared.mode.Mode.{Mode}
use Rattle.aq_term.specs.declared.mode.Mode.TheVariants as mode
use Rattle.aq_term.specs.declared.proc_name.ProcName.{ProcName}
use Rattle.bam_code.specs.declared.arg_type.ArgType.{ArgType}
use Rattle.bam_code.specs.declared.arg_type.ArgType.TheVariants as arg
use Rattle.bam_code.specs.declared.signature.Signature.{Signature}

-- an argument is above a full word, one that is no reference, what is passed for a result, and any word
abbrev pub takes_full : ArgType → Bool
takes_full arg.Out = false
takes_full arg.Bar = false
takes_full _ = true

abbrev pub takes_direct : ArgType → Bool
takes_direct arg.Direct = true
takes_direct arg.Nonvar = true
takes_direct arg.Any = true
takes_direct _ = false

abbrev pub takes_result : ArgType → Bool
takes_result arg.Out = true
takes_result arg.Any = true
takes_result _ = false

abbrev pub takes_any : ArgType → Bool
takes_any arg.Any = true
takes_any _ = false

-- an argument of this declared type takes what a query loads for a mode
abbrev pub takes : ArgType → Mode → Bool
takes declared mode.Ground = takes_full declared
takes declared mode.Nonvar = takes_direct declared
takes declared mode.Out = takes_result declared
takes declared mode.Any = takes_any declared

abbrev pub takes_at : Option ArgType → Mode → Bool
takes_at None mode = false
takes_at (Some declared) mode = takes declared mode

-- the arguments from a number on take what is loaded for these modes
abbrev pub takes_from : List ArgType → ℕ → List Mode → Bool
takes_from args number [] = true
takes_from args number (mode ∷ modes) = takes_at (slice_get args number) mode && takes_from args (number + 1) modes

abbrev pub takes_all : List Mode → List ArgType → Bool
takes_all modes args = nat_eq (length modes) (length args) && takes_from args 0 modes

abbrev pub name_of_entry : Entry → ProcName
name_of_entry entry = record { name = entry.name; arity = entry.arity; part = 0; width = entry.arity }

abbrev pub takes_signature : List Mode → Option Signature → Bool
takes_signature modes None = false
takes_signature modes (Some signature) = takes_all modes signature.args

-- the rule: an entry's procedure is there, and takes what queries load for the entry's modes
abbrev pub keeps_entry : (ProcName → Option Signature) → Entry → Bool
keeps_entry procedure entry = takes_signature entry.modes (procedure (name_of_entry entry))
