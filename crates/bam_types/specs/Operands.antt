-- What instructions read.
use Rattle.std.specs.Prelude.{Bool, true, false, cond, ◌&&◌, ℕ, nat_eq, nat_lt, List, [], ◌∷◌, length, Option, Some, None, option_map, option_and_then, slice_get}
use Rattle.term_meaning.specs.Plain as term
use Rattle.term_meaning.specs.Plain.{Plain, items}
use Rattle.aq_term.specs.Builtins.{arity_of}
use Rattle.aq_term.specs.declared.functor.Functor.{Functor}
use Rattle.bam_code.specs.declared.code.Code.{Code}
use Rattle.bam_code.specs.declared.known.Known.{Known}
use Rattle.bam_code.specs.declared.known.Known.TheVariants as known
use Rattle.bam_code.specs.declared.line.Line.{Line}
use Rattle.bam_code.specs.declared.line.Line.TheVariants as line
use Rattle.bam_code.specs.declared.place_type.PlaceType.TheVariants as place
use Rattle.bam_code.specs.declared.source.Source.{Source}
use Rattle.bam_code.specs.declared.source.Source.TheVariants as source
use Rattle.bam_code.specs.declared.word_type.WordType.{WordType}
use Rattle.bam_code.specs.declared.word_type.WordType.TheVariants as word
use Rattle.bam_types.specs.declared.held.Held.{Held}
use Rattle.bam_types.specs.declared.operand.Operand.{Operand}
use Rattle.bam_types.specs.declared.state.State.{State}
use Rattle.bam_types.specs.Identities.{known_at}
use Rattle.bam_types.specs.States.{register, slot}

-- a constant or a pool entry of this type
abbrev pub constant : WordType → Operand
constant w = record { holds = place.Word w; identity = None; known = known.Ground }

-- what a set place holds
abbrev pub held_operand : State → Held → Operand
held_operand state held =
    record { holds = held.holds; identity = Some held.identity; known = known_at state.identities held.identity }

-- the type of a ground compound without references
abbrev pub compound_word : Functor → WordType
compound_word functor =
    cond (nat_eq functor.name.number 47 && nat_eq functor.arity 2) word.FullListCell (word.FullStructure functor)

-- the type of a pool entry, which is a compound of at most 255 arguments
abbrev pub pool_word : Plain → Option WordType
pool_word (term.variable number) = None
pool_word (term.integer value) = None
pool_word (term.atom number) = None
pool_word (term.compound name arguments) =
    cond (nat_lt (length (items arguments)) 256) (Some (compound_word (record { name = record { number = name }; arity = length (items arguments) }))) None

-- what is read from a source, or none where it is unset
abbrev pub operand : State → List Plain → Source → Option Operand
operand state pool (source.Register number) = option_map (held_operand state) (register state number)
operand state pool (source.Slot number) = option_map (held_operand state) (slot state number)
operand state pool (source.Int value) = Some (constant word.Int)
operand state pool (source.Atom name) = Some (constant word.Atom)
operand state pool (source.Pool number) = option_map constant (option_and_then pool_word (slice_get pool number))

abbrev pub nothing : List (Option Source)
nothing = None ∷ None ∷ None ∷ []

abbrev pub one : Source → List (Option Source)
one from = Some from ∷ None ∷ None ∷ []

abbrev pub two : Source → Source → List (Option Source)
two left right = Some left ∷ Some right ∷ None ∷ []

-- the registers from 0 on that are the arguments of a built-in of this arity
abbrev pub registers_below : ℕ → List (Option Source)
registers_below arity =
    cond (nat_eq arity 0) nothing (cond (nat_eq arity 1) (one (source.Register 0)) (cond (nat_eq arity 2) (two (source.Register 0) (source.Register 1)) (Some (source.Register 0) ∷ Some (source.Register 1) ∷ Some (source.Register 2) ∷ [])))

-- the operands of a line that are read, in the order of its text
abbrev pub reads : Line → List (Option Source)
reads (line.Move into from) = one from
reads (line.Deref into from) = one from
reads (line.Load into from cell) = one from
reads (line.Push from) = one from
reads (line.Bind number with) = two (source.Register number) with
reads (line.Unify number with) = two (source.Register number) with
reads (line.Switch number reference atom integer list structure) = one (source.Register number)
reads (line.Match number value other) = one (source.Register number)
reads (line.Functor number functor other) = one (source.Register number)
reads (line.Cut from) = one from
reads (line.Arith operation into left right) = two left right
reads (line.Less comparison left right) = two left right
reads (line.Eval into expression) = one expression
reads (line.Same sameness left right) = two left right
reads (line.Builtin builtin) = registers_below (arity_of builtin)
reads (line.Raise from) = one from
reads (line.Fill number with) = two (source.Register number) with
reads _ = nothing

abbrev pub is_slot : Source → Bool
is_slot (source.Slot number) = true
is_slot _ = false
