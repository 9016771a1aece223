-- The rules of pushes, choices, results, states and catchers.
use Rattle.std.specs.Prelude.{Bool, true, false, cond, not, ◌&&◌, ◌||◌, ℕ, ◌+◌, nat_eq, List, [], ◌∷◌, Option, Some, None}
use Rattle.std.specs.List.{list_any}
use Rattle.bam_code.specs.declared.arg_type.ArgType.{ArgType}
use Rattle.bam_code.specs.declared.arg_type.ArgType.TheVariants as arg
use Rattle.bam_code.specs.declared.known.Known.{Known}
use Rattle.bam_code.specs.declared.known.Known.TheVariants as known
use Rattle.bam_code.specs.declared.line.Line.{Line}
use Rattle.bam_code.specs.declared.line.Line.TheVariants as line
use Rattle.bam_code.specs.declared.place_type.PlaceType.{PlaceType}
use Rattle.bam_code.specs.declared.place_type.PlaceType.TheVariants as place
use Rattle.bam_code.specs.declared.result_type.ResultType.{ResultType}
use Rattle.bam_code.specs.declared.signature.Signature.{Signature}
use Rattle.bam_code.specs.declared.switch_target.SwitchTarget.{SwitchTarget}
use Rattle.bam_code.specs.declared.target.Target.{Target}
use Rattle.bam_code.specs.declared.word_type.WordType.{WordType}
use Rattle.bam_code.specs.declared.word_type.WordType.TheVariants as word
use Rattle.bam_types.specs.declared.argument.Argument.{Argument}
use Rattle.bam_types.specs.declared.argument.Argument.TheVariants as argument
use Rattle.bam_types.specs.declared.fit.Seen.{Seen}
use Rattle.bam_types.specs.declared.held.Held.{Held}
use Rattle.bam_types.specs.declared.opening.Opening.{Opening}
use Rattle.bam_types.specs.declared.state.State.{State}
use Rattle.bam_types.specs.CallRule.{passed_identity, result_of}
use Rattle.bam_types.specs.DeclaredTypes.{result_known}
use Rattle.bam_types.specs.Flow.{of_reference}
use Rattle.bam_types.specs.HoleRule.{is_that}
use Rattle.bam_types.specs.Identities.{known_at}
use Rattle.bam_types.specs.LabelFit.{fits, has_all}
use Rattle.bam_types.specs.Labels.{Label, Within, is_alternative, is_ball, is_frameless, has_registers_below, label_of, target_label}
use Rattle.bam_types.specs.PlaceTypes.{strip_place}
use Rattle.bam_types.specs.States.{caught_at, has_filled_all, register}
use Rattle.bam_types.specs.WordTypes.{both_known, follows, is_full, is_ground, list_cell_type, made_direct}

-- a push while one is due, the structure's register being another one
abbrev pub is_push : ℕ → Line → Bool
is_push opened (line.Push from) = true
is_push opened (line.PushNew register) = not (nat_eq register opened)
is_push opened (line.Hole register holds) = not (nat_eq register opened)
is_push opened _ = false

abbrev pub is_no_push : Line → Bool
is_no_push (line.Push from) = false
is_no_push (line.PushNew register) = false
is_no_push _ = true

abbrev pub keeps_opened : Option Opening → Line → Bool
keeps_opened None line = is_no_push line
keeps_opened (Some opening) line = is_push opening.register line

-- the rule of pushes
abbrev pub keeps_open : State → Line → Bool
keeps_open state line = keeps_opened state.opening line

-- an alternative without a frame and slots
abbrev pub is_choice : Label → Bool
is_choice label = is_alternative label.kind && is_frameless label

-- one whose items hold now
abbrev pub is_choice_at : State → Option Label → Bool
is_choice_at state None = false
is_choice_at state (Some label) = is_choice label && has_all state None label.items

-- one that lists no register from this number on either
abbrev pub is_try_at : State → ℕ → Option Label → Bool
is_try_at state registers None = false
is_try_at state registers (Some label) =
    is_choice label && has_registers_below label registers && has_all state None label.items

-- the rule of choices
abbrev pub keeps_choice : Within → State → Line → Bool
keeps_choice within state (line.Try registers alternative) = is_try_at state registers (target_label within alternative)
keeps_choice within state (line.Retry alternative) = is_choice_at state (target_label within alternative)
keeps_choice within state _ = true

-- what is known of an identity's term with what one result says
abbrev pub said_at : State → ℕ → ResultType → ℕ → Known → Known
said_at state number declared identity k =
    cond (is_that (passed_identity state number) identity) (both_known k (result_known declared)) k

-- what the results from a number on say of an identity's term, beside what is known already
abbrev pub said_from : State → ℕ → List ResultType → ℕ → Known → Known
said_from state number [] identity k = k
said_from state number (declared ∷ results) identity k =
    said_from state (number + 1) results identity (said_at state number declared identity k)

-- what is known of an identity's term, with what a callee says
abbrev pub known_after : State → Option Signature → ℕ → Known
known_after state None identity = known_at state.identities identity
known_after state (Some signature) identity =
    both_known (known_at state.identities identity) (said_from state 0 signature.results identity known.Any)

abbrev pub says : State → Option Signature → Argument → ResultType → Bool
says state callee (argument.Term identity) result = follows (known_after state callee identity) (result_known result)
says state callee (argument.Unfilled identity) result = true
says state callee argument.Filled result = true
says state callee argument.Barrier result = true

-- as much is known of the arguments from a number on as the procedure says
abbrev pub says_from : State → Option Signature → List ResultType → ℕ → List Argument → Bool
says_from state callee results number [] = true
says_from state callee results number (argument ∷ arguments) =
    says state callee argument (result_of results number) && says_from state callee results (number + 1) arguments

abbrev pub says_all : Within → State → Option Signature → Bool
says_all within state callee = says_from state callee within.signature.results 0 state.arguments

-- the rule of results
abbrev pub keeps_result : Within → State → Line → Bool
keeps_result within state line.Return = says_all within state None
keeps_result within state (line.Exec name) = says_all within state (within.callee name)
keeps_result within state _ = true

abbrev pub fits_label : State → Option Seen → Option Label → Bool
fits_label state seen None = true
fits_label state seen (Some label) = fits state seen label

-- the state fits the label that a target names
abbrev pub fits_at : Within → State → Option Seen → Target → Bool
fits_at within state seen target = fits_label state seen (target_label within target)

-- the type of a word that was seen to be a list cell
abbrev pub list_of : PlaceType → WordType
list_of (place.Word word) = list_cell_type (is_ground word) (is_full word)
list_of _ = word.ListCell

-- the type of a word that was seen to be a structure
abbrev pub structure_of : PlaceType → WordType
structure_of (place.Word word) = made_direct word
structure_of _ = word.Direct

-- a register was seen to be of a type
abbrev pub seen_as : ℕ → Held → WordType → Option Seen
seen_as register held word = Some record {
  register = register;
  holds = place.Word word;
  identity = held.identity;
  known = strip_place (place.Word word);
}

-- the state fits each label of a switch, where the register was seen to be of its type
abbrev pub fits_tags : Within → State → ℕ → Held → Target → Target → Target → Target → Target → Bool
fits_tags within state register held reference atom integer list structure =
    fits_at within state (seen_as register held word.Var) reference && fits_at within state (seen_as register held word.Atom) atom && fits_at within state (seen_as register held word.Int) integer && fits_at within state (seen_as register held (list_of held.holds)) list && fits_at within state (seen_as register held (structure_of held.holds)) structure

abbrev pub fits_switch : Within → State → ℕ → Option Held → Target → Target → Target → Target → Target → Bool
fits_switch within state register None reference atom integer list structure = true
fits_switch within state register (Some held) reference atom integer list structure =
    fits_tags within state register held reference atom integer list structure

-- the state fits each label to which a line goes, going on aside
abbrev pub fits_there : Within → State → Line → Bool
fits_there within state (line.Jump target) = fits_at within state None target
fits_there within state (line.Match register constant other) = fits_at within state None other
fits_there within state (line.Functor register functor other) = fits_at within state None other
fits_there within state (line.Switch number reference atom integer list structure) =
    fits_switch within state number (register state number) (of_reference reference) atom integer list structure
fits_there within state _ = true

abbrev pub fits_here : State → Bool → Option Label → Bool
fits_here state entered None = true
fits_here state entered (Some label) = not entered || fits state None label

-- the rule of states
abbrev pub keeps_state : Within → State → Bool → Line → Bool
keeps_state within state entered line = fits_here state entered (label_of line) && fits_there within state line

abbrev pub is_barrier : ArgType → Bool
is_barrier arg.Bar = true
is_barrier _ = false

abbrev pub takes_no_barrier : Option Signature → Bool
takes_no_barrier None = false
takes_no_barrier (Some signature) = not (list_any is_barrier signature.args)

-- a line that is accepted while a catcher is in force
abbrev pub is_accepted_beside_catcher : Within → Line → Bool
is_accepted_beside_catcher within (line.Move into from) = true
is_accepted_beside_catcher within (line.Allocate size) = true
is_accepted_beside_catcher within (line.Call name) = takes_no_barrier (within.callee name)
is_accepted_beside_catcher within _ = false

abbrev pub is_named_alike : Option ℕ → ℕ → Bool
is_named_alike None registers = true
is_named_alike (Some before) registers = nat_eq before registers

-- a ball that is caught with this number can go to a label
abbrev pub is_caught_at : State → ℕ → Option Label → Bool
is_caught_at state registers None = false
is_caught_at state registers (Some label) =
    is_ball label.kind && is_frameless label && has_registers_below label registers && has_all state None label.items && is_named_alike (caught_at state label.number) registers

-- the rule of catchers
abbrev pub keeps_catch : Within → State → Line → Bool
keeps_catch within state (line.Catch registers ball) =
    not state.catching && has_filled_all state && is_caught_at state registers (target_label within ball)
keeps_catch within state line.Uncatch = state.catching
keeps_catch within state line = not state.catching || is_accepted_beside_catcher within line
