-- The states at the start of a procedure and after a label.
use Rattle.std.specs.Prelude.{Bool, true, false, cond, ◌&&◌, ℕ, ◌+◌, List, [], ◌∷◌, ◌++◌, length, fold, Option, Some, None, slice_get, slice_set}
use Rattle.bam_code.specs.declared.arg_type.ArgType.{ArgType}
use Rattle.bam_code.specs.declared.arg_type.ArgType.TheVariants as arg
use Rattle.bam_code.specs.declared.item.Item.{Item}
use Rattle.bam_code.specs.declared.item.Item.TheVariants as item
use Rattle.bam_code.specs.declared.known.Known.{Known}
use Rattle.bam_code.specs.declared.known.Known.TheVariants as known
use Rattle.bam_code.specs.declared.place.Place.{Place}
use Rattle.bam_code.specs.declared.place.Place.TheVariants as at_place
use Rattle.bam_code.specs.declared.place_type.PlaceType.{PlaceType}
use Rattle.bam_code.specs.declared.place_type.PlaceType.TheVariants as place
use Rattle.bam_code.specs.declared.result_type.ResultType.{ResultType}
use Rattle.bam_code.specs.declared.signature.Signature.{Signature}
use Rattle.bam_code.specs.declared.word_type.WordType.{WordType}
use Rattle.bam_code.specs.declared.word_type.WordType.TheVariants as word
use Rattle.bam_types.specs.declared.argument.Argument.{Argument}
use Rattle.bam_types.specs.declared.argument.Argument.TheVariants as argument
use Rattle.bam_types.specs.declared.held.Held.{Held}
use Rattle.bam_types.specs.declared.identity.Identity.{Identity}
use Rattle.bam_types.specs.declared.identity.Identity.TheVariants as identity
use Rattle.bam_types.specs.declared.state.State.{State}
use Rattle.bam_types.specs.CallRule.{argument_place, result_of}
use Rattle.bam_types.specs.DeclaredTypes.{argument_word, result_word}
use Rattle.bam_types.specs.Identities.{learn}
use Rattle.bam_types.specs.Labels.{Label, is_ball}
use Rattle.bam_types.specs.States.{cleared, add_identity, set_held, set_new, set_register, identity_in, identity_of, caught_at}

abbrev pub add_argument : State → Argument → State
add_argument state argument = record state { arguments = state.arguments ++ argument ∷ [] }

abbrev pub set_at : State → Option Place → Held → State
set_at state None held = state
set_at state (Some place) held = set_held state place held

-- what the state says of an argument with this type, whose term has this identity
abbrev pub term_argument : WordType → ℕ → Argument
term_argument word.Bar identity = argument.Barrier
term_argument _ identity = argument.Term identity

-- an argument that is no result stands in its register
abbrev pub start_word : State → ℕ → WordType → State
start_word state number word =
    set_at (add_argument (add_identity state (identity.Term known.Any)) (term_argument word (length state.identities))) (argument_place number) (record { holds = place.Word word; identity = length state.identities })

-- the hole of a result does
abbrev pub start_hole : State → ℕ → WordType → State
start_hole state number word =
    set_at (add_argument (add_identity state (identity.Own number)) (argument.Unfilled (length state.identities))) (argument_place number) (record { holds = place.Hole word; identity = length state.identities })

abbrev pub start_argument : State → ℕ → Option WordType → ResultType → State
start_argument state number None result = start_hole state number (result_word result)
start_argument state number (Some word) result = start_word state number word

abbrev pub start_from : List ResultType → ℕ → List ArgType → State → State
start_from results number [] state = state
start_from results number (declared ∷ args) state =
    start_from results (number + 1) args (start_argument state number (argument_word declared) (result_of results number))

-- a state that says nothing
abbrev pub blank : State
blank = record {
  frame = None;
  registers = [];
  slots = [];
  identities = [];
  arguments = [];
  opening = None;
  made = 0;
  catching = false;
  caught = [];
}

-- the state at a procedure's start
abbrev pub start : Signature → State
start signature = start_from signature.results 0 signature.args blank

-- an argument with an identity of its own; a result counts as filled
abbrev pub number_argument : State → ArgType → State
number_argument state arg.Out = add_argument state argument.Filled
number_argument state arg.Bar = add_argument state argument.Barrier
number_argument state _ = add_argument (add_identity state (identity.Term known.Any)) (argument.Term (length state.identities))

abbrev pub number_arguments : State → List ArgType → State
number_arguments state args = fold number_argument state args

abbrev pub learn_of : State → Option ℕ → Known → State
learn_of state None k = state
learn_of state (Some identity) k = record state { identities = learn state.identities identity k }

abbrev pub is_hole : PlaceType → Bool
is_hole (place.Hole word) = true
is_hole _ = false

abbrev pub is_filled_result : Option Argument → Bool
is_filled_result None = false
is_filled_result (Some (argument.Term identity)) = false
is_filled_result (Some (argument.Unfilled identity)) = false
is_filled_result (Some argument.Filled) = true
is_filled_result (Some argument.Barrier) = false

-- the first place with the hole of this argument
abbrev pub is_first_hole : State → ℕ → PlaceType → Bool
is_first_hole state number holds = is_filled_result (slice_get state.arguments number) && is_hole holds

-- the hole of an argument unfilled, with a new identity
abbrev pub unfill : State → ℕ → State
unfill state number =
    record (add_identity state (identity.Own number)) { arguments = slice_set state.arguments number (argument.Unfilled (length state.identities)) }

abbrev pub hold_with : State → Place → PlaceType → Option ℕ → State
hold_with state place holds None = set_new state place holds
hold_with state place holds (Some identity) = set_held state place (record { holds = holds; identity = identity })

-- a place with the identity of the argument that marks it. The first place with a result's hole makes the hole unfilled
abbrev pub hold_marked : State → Place → PlaceType → ℕ → State
hold_marked state place holds number =
    cond (is_first_hole state number holds) (set_held (unfill state number) place (record { holds = holds; identity = length state.identities })) (hold_with state place holds (identity_of state number))

abbrev pub hold_place : State → Place → PlaceType → Option ℕ → State
hold_place state place holds None = set_new state place holds
hold_place state place holds (Some number) = hold_marked state place holds number

-- an item holds
abbrev pub hold : State → Item → State
hold state (item.Argument number k) = learn_of state (identity_of state number) k
hold state (item.Place place holds mark) = hold_place state place holds mark

abbrev pub hold_all : State → List Item → State
hold_all state items = fold hold state items

abbrev pub hold_caught : State → Option ℕ → State
hold_caught state None = state
hold_caught state (Some register) = set_register state register (place.Word word.Any)

-- in the register of a ball stands any term, where a `catch` before names the label
abbrev pub hold_ball : State → Label → State
hold_ball state label = cond (is_ball label.kind) (hold_caught state (caught_at state label.number)) state

abbrev pub framed : State → Option ℕ → State
framed state frame = record (cleared state) { frame = frame }

-- the state after a label
abbrev pub enter : Signature → Label → State → State
enter signature label state = hold_ball (hold_all (number_arguments (framed state label.frame) signature.args) label.items) label
