-- The rule of holes.
use Rattle.std.specs.Prelude.{Bool, true, false, cond, not, ◌&&◌, ◌||◌, ℕ, ◌+◌, nat_eq, List, [], ◌∷◌, Option, Some, None}
use Rattle.std.specs.List.{list_all, list_any}
use Rattle.bam_code.specs.declared.arg_type.ArgType.{ArgType}
use Rattle.bam_code.specs.declared.item.Item.{Item}
use Rattle.bam_code.specs.declared.item.Item.TheVariants as item
use Rattle.bam_code.specs.declared.line.Line.{Line}
use Rattle.bam_code.specs.declared.line.Line.TheVariants as line
use Rattle.bam_code.specs.declared.place_type.PlaceType.{PlaceType}
use Rattle.bam_code.specs.declared.place_type.PlaceType.TheVariants as place
use Rattle.bam_code.specs.declared.signature.Signature.{Signature}
use Rattle.bam_code.specs.declared.target.Target.{Target}
use Rattle.bam_types.specs.declared.argument.Argument.{Argument}
use Rattle.bam_types.specs.declared.argument.Argument.TheVariants as argument
use Rattle.bam_types.specs.declared.state.State.{State}
use Rattle.bam_types.specs.CallRule.{passed_hole}
use Rattle.bam_types.specs.Flow.{of_reference}
use Rattle.bam_types.specs.Labels.{Label, Within, label_of, target_label}
use Rattle.bam_types.specs.States.{is_made, has_filled_all}

-- a line that is accepted while a hole that a line made is unfilled
abbrev pub is_accepted_beside_holes : Line → Bool
is_accepted_beside_holes (line.Move into from) = true
is_accepted_beside_holes (line.Structure register functor) = true
is_accepted_beside_holes (line.ListCell register) = true
is_accepted_beside_holes (line.Push from) = true
is_accepted_beside_holes (line.PushNew register) = true
is_accepted_beside_holes (line.Fresh register) = true
is_accepted_beside_holes (line.Hole register holds) = true
is_accepted_beside_holes (line.Fill register with) = true
is_accepted_beside_holes line.Deallocate = true
is_accepted_beside_holes (line.Call name) = true
is_accepted_beside_holes (line.Exec name) = true
is_accepted_beside_holes _ = false

abbrev pub is_marked_hole : PlaceType → Option ℕ → ℕ → Bool
is_marked_hole (place.Hole word) None number = false
is_marked_hole (place.Hole word) (Some argument) number = nat_eq argument number
is_marked_hole _ mark number = false

-- an item is a place of the hole of an argument
abbrev pub is_hole_of : ℕ → Item → Bool
is_hole_of number (item.Argument argument known) = false
is_hole_of number (item.Place place holds mark) = is_marked_hole holds mark number

abbrev pub lists_hole : List Item → ℕ → Bool
lists_hole items number = list_any (is_hole_of number) items

abbrev pub lists_argument : List Item → ℕ → Argument → Bool
lists_argument items number (argument.Term identity) = true
lists_argument items number (argument.Unfilled identity) = lists_hole items number
lists_argument items number argument.Filled = true
lists_argument items number argument.Barrier = true

abbrev pub lists_from : List Item → ℕ → List Argument → Bool
lists_from items number [] = true
lists_from items number (argument ∷ arguments) =
    lists_argument items number argument && lists_from items (number + 1) arguments

-- items list each unfilled hole of a result
abbrev pub lists_holes : State → List Item → Bool
lists_holes state items = lists_from items 0 state.arguments

abbrev pub lists_at_label : State → Option Label → Bool
lists_at_label state None = true
lists_at_label state (Some label) = lists_holes state label.items

-- the label that a target names does
abbrev pub lists_at : Within → State → Target → Bool
lists_at within state target = lists_at_label state (target_label within target)

-- the label that a line is does, where it is gone on to
abbrev pub lists_here : State → Bool → Option Label → Bool
lists_here state entered None = true
lists_here state entered (Some label) = not entered || lists_holes state label.items

-- each label to which a line goes does
abbrev pub lists_there : Within → State → Line → Bool
lists_there within state (line.Try registers alternative) = lists_at within state alternative
lists_there within state (line.Retry alternative) = lists_at within state alternative
lists_there within state (line.Jump target) = lists_at within state target
lists_there within state (line.Match register constant other) = lists_at within state other
lists_there within state (line.Functor register functor other) = lists_at within state other
lists_there within state (line.Switch register reference atom integer list structure) =
    lists_at within state (of_reference reference) && lists_at within state atom && lists_at within state integer && lists_at within state list && lists_at within state structure
lists_there within state _ = true

abbrev pub is_that : Option ℕ → ℕ → Bool
is_that None identity = false
is_that (Some other) identity = nat_eq other identity

-- a hole of this identity is passed at an argument from a number on
abbrev pub is_passed_from : State → ℕ → List ArgType → ℕ → Bool
is_passed_from state number [] identity = false
is_passed_from state number (declared ∷ args) identity =
    is_that (passed_hole state number declared) identity || is_passed_from state (number + 1) args identity

abbrev pub is_passed_later : State → ℕ → List ArgType → Option ℕ → Bool
is_passed_later state number args None = false
is_passed_later state number args (Some identity) = is_passed_from state number args identity

-- no hole is passed at two arguments
abbrev pub passes_once_from : State → ℕ → List ArgType → Bool
passes_once_from state number [] = true
passes_once_from state number (declared ∷ args) =
    not (is_passed_later state (number + 1) args (passed_hole state number declared)) && passes_once_from state (number + 1) args

abbrev pub is_made_by : State → Option ℕ → Bool
is_made_by state None = false
is_made_by state (Some identity) = is_made state identity

-- how many of the passed holes a line made
abbrev pub made_passed_from : State → ℕ → List ArgType → ℕ
made_passed_from state number [] = 0
made_passed_from state number (declared ∷ args) =
    cond (is_made_by state (passed_hole state number declared)) 1 0 + made_passed_from state (number + 1) args

-- each unfilled hole that a line made is passed, and no hole is passed twice
abbrev pub passes_made : State → List ArgType → Bool
passes_made state args = passes_once_from state 0 args && nat_eq (made_passed_from state 0 args) state.made

abbrev pub passes_own_hole : State → List ArgType → Argument → Bool
passes_own_hole state args (argument.Term identity) = true
passes_own_hole state args (argument.Unfilled identity) = is_passed_from state 0 args identity
passes_own_hole state args argument.Filled = true
passes_own_hole state args argument.Barrier = true

-- each unfilled hole of a result is passed
abbrev pub passes_own : State → List ArgType → Bool
passes_own state args = list_all (passes_own_hole state args) state.arguments

abbrev pub call_passes : State → Option Signature → Bool
call_passes state None = false
call_passes state (Some signature) = passes_made state signature.args

abbrev pub exec_passes : State → Option Signature → Bool
exec_passes state None = false
exec_passes state (Some signature) = passes_made state signature.args && passes_own state signature.args

-- calls and returns leave no hole unfilled that they should not
abbrev pub keeps_passed : Within → State → Line → Bool
keeps_passed within state line.Return = nat_eq state.made 0 && has_filled_all state
keeps_passed within state (line.Call name) = call_passes state (within.callee name)
keeps_passed within state (line.Exec name) = exec_passes state (within.callee name)
keeps_passed within state _ = true

-- a label that is not gone on to: what was unfilled before it is nothing to it
abbrev pub stands_apart : Bool → Option Label → Bool
stands_apart entered None = false
stands_apart entered (Some label) = not entered

-- the rule
abbrev pub keeps_hole : Within → State → Bool → Line → Bool
keeps_hole within state entered line =
    ((nat_eq state.made 0 || is_accepted_beside_holes line) || stands_apart entered (label_of line)) && (lists_here state entered (label_of line) && lists_there within state line) && keeps_passed within state line
