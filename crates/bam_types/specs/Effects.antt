-- The state after a line that keeps the rules.
use Rattle.std.specs.Prelude.{Bool, true, false, cond, ◌&&◌, ◌||◌, ℕ, ◌+◌, ◌-◌, nat_eq, List, [], ◌∷◌, length, map, Option, Some, None, slice_get, slice_set}
use Rattle.aq_term.specs.declared.builtin.Builtin.{Builtin}
use Rattle.aq_term.specs.declared.builtin.Builtin.TheVariants as builtin
use Rattle.aq_term.specs.declared.functor.Functor.{Functor}
use Rattle.bam_code.specs.declared.arg_type.ArgType.{ArgType}
use Rattle.bam_code.specs.declared.constant.Constant.{Constant}
use Rattle.bam_code.specs.declared.constant.Constant.TheVariants as constant
use Rattle.bam_code.specs.declared.hole_type.HoleType.{HoleType}
use Rattle.bam_code.specs.declared.known.Known.{Known}
use Rattle.bam_code.specs.declared.known.Known.TheVariants as known
use Rattle.bam_code.specs.declared.line.Line.{Line}
use Rattle.bam_code.specs.declared.line.Line.TheVariants as line
use Rattle.bam_code.specs.declared.place.Place.{Place}
use Rattle.bam_code.specs.declared.place.Place.TheVariants as at_place
use Rattle.bam_code.specs.declared.place_type.PlaceType.{PlaceType}
use Rattle.bam_code.specs.declared.place_type.PlaceType.TheVariants as place
use Rattle.bam_code.specs.declared.result_type.ResultType.{ResultType}
use Rattle.bam_code.specs.declared.signature.Signature.{Signature}
use Rattle.bam_code.specs.declared.source.Source.{Source}
use Rattle.bam_code.specs.declared.source.Source.TheVariants as source
use Rattle.bam_code.specs.declared.target.Target.{Target}
use Rattle.bam_code.specs.declared.target.Target.TheVariants as target
use Rattle.bam_code.specs.declared.word_type.WordType.{WordType}
use Rattle.bam_code.specs.declared.word_type.WordType.TheVariants as word
use Rattle.bam_types.specs.declared.held.Held.{Held}
use Rattle.bam_types.specs.declared.identity.Identity.TheVariants as identity
use Rattle.bam_types.specs.declared.opening.Opening.{Opening}
use Rattle.bam_types.specs.declared.operand.Operand.{Operand}
use Rattle.bam_types.specs.declared.state.State.{State}
use Rattle.bam_types.specs.CallRule.{callee_of, is_result, passed_hole, passed_identity}
use Rattle.bam_types.specs.DeclaredTypes.{hole_word, result_known}
use Rattle.bam_types.specs.Enter.{enter, learn_of}
use Rattle.bam_types.specs.Identities.{learn}
use Rattle.bam_types.specs.Labels.{Label, Within, label_of}
use Rattle.bam_types.specs.Operands.{operand}
use Rattle.bam_types.specs.PlaceTypes.{place_below, deref_place}
use Rattle.bam_types.specs.States.{add_identity, fill, register, set_held, set_new, set_register, settle, unset_all_of, weaken}
use Rattle.bam_types.specs.Weakening.{unset_place, padded, pass_place, learn_all_passed}
use Rattle.bam_types.specs.WordTypes.{is_full, is_ground, list_cell_type, structure_type}

abbrev pub enter_label : Signature → State → Option Label → State
enter_label signature state None = state
enter_label signature state (Some label) = enter signature label state

-- a word of this type with this identity, or with a new one where it is a constant's
abbrev pub put : State → Place → PlaceType → Option ℕ → State
put state place holds None = set_new state place holds
put state place holds (Some identity) = set_held state place (record { holds = holds; identity = identity })

abbrev pub moved : State → Place → Option Operand → State
moved state into None = state
moved state into (Some from) = put state into from.holds from.identity

abbrev pub dereferenced : State → ℕ → Option Operand → State
dereferenced state register None = state
dereferenced state register (Some from) = put state (at_place.Register register) (deref_place from.holds) from.identity

-- the type of a cell of a list cell or a structure
abbrev pub cell_of : PlaceType → WordType
cell_of (place.Word w) = cond (is_full w) word.Full (cond (is_ground w) word.Ground word.Any)
cell_of _ = word.Any

abbrev pub loaded : State → ℕ → Option Operand → State
loaded state register None = state
loaded state register (Some from) = set_register state register (place.Word (cell_of from.holds))

-- a structure, or a list cell, whose pushes are due
abbrev pub structure_opening : ℕ → Functor → Opening
structure_opening register functor =
    record { register = register; functor = Some functor; due = functor.arity; all_ground = true; all_full = true; has_part = false }

abbrev pub list_opening : ℕ → Opening
list_opening register = record { register = register; functor = None; due = 2; all_ground = true; all_full = true; has_part = false }

-- its register is unset until the last push
abbrev pub open_ : State → Opening → State
open_ state opening = record state { registers = unset_place state.registers opening.register; opening = Some opening }

-- what is pushed is ground, or full; a hole counts as what it is for, and a structure with a hole as what it will be
abbrev pub is_pushed_ground : PlaceType → Bool
is_pushed_ground (place.Part word) = is_ground word
is_pushed_ground (place.Hole word) = is_ground word
is_pushed_ground holds = place_below holds (place.Word word.Ground)

abbrev pub is_pushed_full : PlaceType → Bool
is_pushed_full (place.Part word) = is_full word
is_pushed_full (place.Hole word) = is_full word
is_pushed_full holds = place_below holds (place.Word word.Full)

abbrev pub is_pushed_part : PlaceType → Bool
is_pushed_part (place.Part word) = true
is_pushed_part (place.Hole word) = true
is_pushed_part _ = false

abbrev pub pushed_opening : Opening → Bool → Bool → Bool → Opening
pushed_opening opening is_ground_word is_full_word is_part_word = record opening {
  due = opening.due - 1;
  all_ground = opening.all_ground && is_ground_word;
  all_full = opening.all_full && is_full_word;
  has_part = opening.has_part || is_part_word;
}

abbrev pub opened_word : Option Functor → Bool → Bool → WordType
opened_word None all_ground all_full = list_cell_type all_ground all_full
opened_word (Some functor) all_ground all_full = structure_type functor all_ground all_full

-- the type of the structure or list cell after the last push
abbrev pub made_type : Opening → PlaceType
made_type opening =
    cond opening.has_part (place.Part (opened_word opening.functor opening.all_ground opening.all_full)) (place.Word (opened_word opening.functor opening.all_ground opening.all_full))

-- after a push the structure is made, or further pushes are due
abbrev pub open_further : State → Opening → State
open_further state opening =
    cond (nat_eq opening.due 0) (set_register (record state { opening = None }) opening.register (made_type opening)) (record state { opening = Some opening })

abbrev pub push_into : State → Option Opening → PlaceType → State
push_into state None holds = state
push_into state (Some opening) holds =
    open_further state (pushed_opening opening (is_pushed_ground holds) (is_pushed_full holds) (is_pushed_part holds))

abbrev pub push : State → PlaceType → State
push state holds = push_into state state.opening holds

abbrev pub pushed : State → Option Operand → State
pushed state None = state
pushed state (Some from) = push state from.holds

abbrev pub fresh : State → ℕ → State
fresh state register = set_register state register (place.Word word.Var)

abbrev pub pushed_new : State → ℕ → State
pushed_new state register = push (fresh state register) (place.Word word.Var)

-- more is known of what was read
abbrev pub taught_of : State → Operand → Known → State
taught_of state read k = learn_of state read.identity k

-- each of two words is known as the other
abbrev pub made_equal : State → Option Operand → Option Operand → State
made_equal state None right = weaken state
made_equal state (Some left) None = weaken state
made_equal state (Some left) (Some right) = taught_of (taught_of (weaken state) left right.known) right left.known

abbrev pub constant_word : Constant → WordType
constant_word (constant.Int value) = word.Int
constant_word (constant.Atom name) = word.Atom

-- a register's word has another type; its identity stays
abbrev pub retyped : State → ℕ → Option Held → WordType → State
retyped state number None word = state
retyped state number (Some held) word =
    set_held state (at_place.Register number) (record { holds = place.Word word; identity = held.identity })

abbrev pub retype : State → ℕ → WordType → State
retype state number word = retyped state number (register state number) word

-- the type of a word that was seen to be a structure of this functor
abbrev pub functor_type : PlaceType → Functor → WordType
functor_type (place.Word w) functor = structure_type functor (is_ground w) (is_full w)
functor_type _ functor = word.Structure functor

abbrev pub matched_functor : State → ℕ → Option Held → Functor → State
matched_functor state number None functor = state
matched_functor state number (Some held) functor = retype state number (functor_type held.holds functor)

-- the hole of this identity was passed, and filled: a slot that held it is a cell
abbrev pub pass_slots : State → ℕ → State
pass_slots state identity = record state {
  identities = learn_all_passed identity state.identities state.slots;
  slots = map (pass_place identity) state.slots;
}

abbrev pub as_term : State → ℕ → State
as_term state number = record state { identities = slice_set state.identities number (identity.Term known.Any) }

abbrev pub fill_hole : State → Option ℕ → State
fill_hole state None = state
fill_hole state (Some identity) = pass_slots (as_term (fill state identity) identity) identity

-- the holes that are passed at the arguments from a number on are filled
abbrev pub fill_passed_from : ℕ → List ArgType → State → State
fill_passed_from number [] state = state
fill_passed_from number (declared ∷ args) state =
    fill_passed_from (number + 1) args (fill_hole state (passed_hole state number declared))

abbrev pub learn_said : State → ℕ → Option ResultType → State
learn_said state number None = state
learn_said state number (Some result) = learn_of state (passed_identity state number) (result_known result)

-- what a callee says of an argument, where that is no result
abbrev pub learn_result : State → ℕ → ArgType → List ResultType → State
learn_result state number declared results =
    cond (is_result declared) state (learn_said state number (slice_get results number))

-- what a callee says of the arguments from a number on
abbrev pub learn_results_from : List ResultType → ℕ → List ArgType → State → State
learn_results_from results number [] state = state
learn_results_from results number (declared ∷ args) state =
    learn_results_from results (number + 1) args (learn_result state number declared results)

abbrev pub answered : State → Option Signature → State
answered state None = state
answered state (Some signature) =
    learn_results_from signature.results 0 signature.args (fill_passed_from 0 signature.args state)

abbrev pub without_registers : State → State
without_registers state = record state { registers = [] }

-- after a call no register is set, the holes that were passed are filled, and as much is known of the other arguments as the callee
-- says
abbrev pub called : State → Option Signature → State
called state callee = settle (without_registers (answered (weaken state) callee))

-- a frame of unset slots, and no frame
abbrev pub allocated : State → ℕ → State
allocated state size = record state { slots = []; frame = Some size }

abbrev pub deallocated : State → State
deallocated state = record state { slots = []; frame = None }

abbrev pub evaluated : State → ℕ → Option Operand → State
evaluated state register None = set_register state register (place.Word word.Int)
evaluated state register (Some expression) =
    set_register (taught_of state expression known.Ground) register (place.Word word.Int)

-- what is known of the arguments of a built-in that succeeded
abbrev pub taught : Builtin → List Known
taught builtin.Atom = known.Ground ∷ known.Any ∷ known.Any ∷ []
taught builtin.Integer = known.Ground ∷ known.Any ∷ known.Any ∷ []
taught builtin.Number = known.Ground ∷ known.Any ∷ known.Any ∷ []
taught builtin.Atomic = known.Ground ∷ known.Any ∷ known.Any ∷ []
taught builtin.Nonvar = known.Nonvar ∷ known.Any ∷ known.Any ∷ []
taught builtin.Compound = known.Nonvar ∷ known.Any ∷ known.Any ∷ []
taught builtin.Functor = known.Nonvar ∷ known.Ground ∷ known.Ground ∷ []
taught builtin.Arg = known.Ground ∷ known.Nonvar ∷ known.Any ∷ []
taught builtin.Univ = known.Nonvar ∷ known.Nonvar ∷ known.Any ∷ []
taught builtin.Compare = known.Ground ∷ known.Any ∷ known.Any ∷ []
taught builtin.PutChar = known.Ground ∷ known.Any ∷ known.Any ∷ []
taught _ = known.Any ∷ known.Any ∷ known.Any ∷ []

abbrev pub learn_taught_from : ℕ → List Known → State → State
learn_taught_from number [] state = state
learn_taught_from number (k ∷ knowns) state =
    learn_taught_from (number + 1) knowns (learn_of state (passed_identity state number) k)

abbrev pub done : State → Builtin → State
done state builtin = learn_taught_from 0 (taught builtin) (weaken state)

abbrev pub made_hole : State → State
made_hole state = record (add_identity state identity.Made) { made = state.made + 1 }

-- a new hole in a register; as a push it counts as what it is for
abbrev pub holed : State → ℕ → HoleType → State
holed state register holds =
    push (set_held (made_hole state) (at_place.Register register) (record { holds = place.Hole (hole_word holds); identity = length state.identities })) (place.Hole (hole_word holds))

abbrev pub filled_held : State → Option Held → State
filled_held state None = state
filled_held state (Some held) = unset_all_of (fill state held.identity) held.identity

-- no place keeps a hole that was filled
abbrev pub filled : State → ℕ → State
filled state number = settle (filled_held (weaken state) (register (weaken state) number))

abbrev pub in_force : State → State
in_force state = record state { catching = true }

-- a catcher is in force, and the label of its ball was named with this number
abbrev pub caught_by : State → ℕ → ℕ → Target → State
caught_by state labels registers (target.Label number) =
    record (in_force state) { caught = slice_set (padded state.caught labels) number (Some registers) }
caught_by state labels registers target.Fails = in_force state

abbrev pub uncaught : State → State
uncaught state = record state { catching = false }

-- the state after a line
abbrev pub after : Within → State → Line → State
after within state (line.Label number frame items) = enter_label within.signature state (label_of (line.Label number frame items))
after within state (line.Alt number frame items) = enter_label within.signature state (label_of (line.Alt number frame items))
after within state (line.Ball number frame items) = enter_label within.signature state (label_of (line.Ball number frame items))
after within state (line.Move into from) = moved state into (operand state within.pool from)
after within state (line.Deref register from) = dereferenced state register (operand state within.pool from)
after within state (line.Load register from cell) = loaded state register (operand state within.pool from)
after within state (line.Structure register functor) = open_ state (structure_opening register functor)
after within state (line.ListCell register) = open_ state (list_opening register)
after within state (line.Push from) = pushed state (operand state within.pool from)
after within state (line.PushNew register) = pushed_new state register
after within state (line.Fresh register) = fresh state register
after within state (line.Bind register with) =
    made_equal state (operand state within.pool (source.Register register)) (operand state within.pool with)
after within state (line.Unify register with) =
    made_equal state (operand state within.pool (source.Register register)) (operand state within.pool with)
after within state (line.Match register constant other) = retype state register (constant_word constant)
after within state (line.Functor number functor other) = matched_functor state number (register state number) functor
after within state (line.Call name) = called state (within.callee name)
after within state (line.Allocate size) = allocated state size
after within state line.Deallocate = deallocated state
after within state (line.Mark register) = set_register state register (place.Word word.Bar)
after within state (line.Arith operation register left right) = set_register state register (place.Word word.Int)
after within state (line.Eval register expression) = evaluated state register (operand state within.pool expression)
after within state (line.Builtin builtin) = done state builtin
after within state (line.Hole register holds) = holed state register holds
after within state (line.Fill register with) = filled state register
after within state (line.Catch registers ball) = caught_by state (length within.labels) registers ball
after within state line.Uncatch = uncaught state
after within state _ = state
