-- The rule of calls.
use Rattle.std.specs.Prelude.{Bool, true, false, cond, ◌&&◌, ℕ, ◌+◌, nat_lt, List, [], ◌∷◌, Option, Some, None, option_map, option_and_then, slice_get}
use Rattle.aq_term.specs.declared.proc_name.ProcName.{ProcName}
use Rattle.bam_code.specs.declared.arg_type.ArgType.{ArgType}
use Rattle.bam_code.specs.declared.arg_type.ArgType.TheVariants as arg
use Rattle.bam_code.specs.declared.line.Line.{Line}
use Rattle.bam_code.specs.declared.line.Line.TheVariants as line
use Rattle.bam_code.specs.declared.place.Place.{Place}
use Rattle.bam_code.specs.declared.place.Place.TheVariants as at_place
use Rattle.bam_code.specs.declared.place_type.PlaceType.{PlaceType}
use Rattle.bam_code.specs.declared.place_type.PlaceType.TheVariants as place
use Rattle.bam_code.specs.declared.result_type.ResultType.{ResultType}
use Rattle.bam_code.specs.declared.result_type.ResultType.TheVariants as filled
use Rattle.bam_code.specs.declared.signature.Signature.{Signature}
use Rattle.bam_code.specs.declared.word_type.WordType.{WordType}
use Rattle.bam_types.specs.declared.held.Held.{Held}
use Rattle.bam_types.specs.declared.state.State.{State}
use Rattle.bam_types.specs.DeclaredTypes.{argument_word, result_word}
use Rattle.bam_types.specs.Labels.{Within}
use Rattle.bam_types.specs.PlaceTypes.{place_below}
use Rattle.bam_types.specs.States.{at, kept}
use Rattle.bam_types.specs.WordTypes.{word_below}

-- the name that a line calls
abbrev pub called_name : Line → Option ProcName
called_name (line.Call name) = Some name
called_name (line.Exec name) = Some name
called_name _ = None

-- the signature of what a line calls
abbrev pub callee_of : Within → Line → Option Signature
callee_of within line = option_and_then within.callee (called_name line)

abbrev pub declared_result : Option ResultType → ResultType
declared_result None = filled.Any
declared_result (Some declared) = declared

-- the result type of an argument, which says nothing where there is none
abbrev pub result_of : List ResultType → ℕ → ResultType
result_of results argument = declared_result (slice_get results argument)

-- the place in which an argument is passed
abbrev pub argument_place : ℕ → Option Place
argument_place argument = cond (nat_lt argument 65536) (Some (at_place.Register argument)) None

-- what the register of an argument holds
abbrev pub passed : State → ℕ → Option Held
passed state argument = option_and_then (at state) (argument_place argument)

-- a result is passed as an unfilled hole for at least what the callee fills in
abbrev pub passes_hole : PlaceType → ResultType → Bool
passes_hole (place.Hole word) result = word_below (result_word result) word
passes_hole _ result = false

abbrev pub passes_as : Option Held → Option WordType → ResultType → Bool
passes_as None wanted result = false
passes_as (Some held) (Some word) result = place_below held.holds (place.Word word)
passes_as (Some held) None result = passes_hole held.holds result

-- an argument of this declared type stands in its register
abbrev pub passes : State → ℕ → ArgType → ResultType → Bool
passes state number declared result = passes_as (passed state number) (argument_word declared) result

-- the arguments from a number on do
abbrev pub passes_from : State → List ResultType → ℕ → List ArgType → Bool
passes_from state results number [] = true
passes_from state results number (declared ∷ args) =
    passes state number declared (result_of results number) && passes_from state results (number + 1) args

abbrev pub passes_all : State → Option Signature → Bool
passes_all state None = false
passes_all state (Some signature) = passes_from state signature.results 0 signature.args

-- the rule: the callee is known, and each of its arguments stands in its register
abbrev pub keeps_call : Within → State → Line → Bool
keeps_call within state (line.Call name) = passes_all state (within.callee name)
keeps_call within state (line.Exec name) = passes_all state (within.callee name)
keeps_call within state _ = true

-- the identity of what the register of an argument holds
abbrev pub identity_held : Held → ℕ
identity_held held = held.identity

abbrev pub passed_identity : State → ℕ → Option ℕ
passed_identity state number = option_map identity_held (option_and_then (kept state) (argument_place number))

abbrev pub is_result : ArgType → Bool
is_result arg.Out = true
is_result _ = false

-- the identity of the hole that is passed at an argument of this declared type
abbrev pub passed_hole : State → ℕ → ArgType → Option ℕ
passed_hole state number declared = cond (is_result declared) (passed_identity state number) None
