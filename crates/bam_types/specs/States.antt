-- What the verifier's state says, and how it changes.
use Rattle.std.specs.Prelude.{Bool, true, false, cond, ℕ, ◌-◌, nat_eq, nat_lt, List, [], ◌∷◌, ◌++◌, length, map, Option, Some, None, option_map, slice_get, slice_set}
use Rattle.std.specs.List.{list_all}
use Rattle.bam_code.specs.declared.known.Known.{Known}
use Rattle.bam_code.specs.declared.known.Known.TheVariants as known
use Rattle.bam_code.specs.declared.place.Place.{Place}
use Rattle.bam_code.specs.declared.place.Place.TheVariants as at_place
use Rattle.bam_code.specs.declared.place_type.PlaceType.{PlaceType}
use Rattle.bam_code.specs.declared.place_type.PlaceType.TheVariants as place
use Rattle.bam_code.specs.declared.word_type.WordType.{WordType}
use Rattle.bam_types.specs.declared.argument.Argument.{Argument}
use Rattle.bam_types.specs.declared.argument.Argument.TheVariants as argument
use Rattle.bam_types.specs.declared.held.Held.{Held}
use Rattle.bam_types.specs.declared.identity.Identity.{Identity}
use Rattle.bam_types.specs.declared.identity.Identity.TheVariants as identity
use Rattle.bam_types.specs.declared.state.State.{State}
use Rattle.bam_types.specs.Identities.{known_at, learn}
use Rattle.bam_types.specs.PlaceTypes.{strip_place}
use Rattle.bam_types.specs.Weakening.{flat_at, held_at, set_place, without, with_known, weaken_places, whole_place, learn_wholes}

-- a state in which only the labels of balls are named
abbrev pub cleared : State → State
cleared state = record {
  frame = None;
  registers = [];
  slots = [];
  identities = [];
  arguments = [];
  opening = None;
  made = 0;
  catching = false;
  caught = state.caught;
}

-- what is kept of a place, if it is set
abbrev pub kept : State → Place → Option Held
kept state (at_place.Register number) = held_at state.registers number
kept state (at_place.Slot number) = held_at state.slots number

-- the same, with what is known of its identity
abbrev pub at : State → Place → Option Held
at state place = option_map (with_known state.identities) (kept state place)

abbrev pub register : State → ℕ → Option Held
register state number = at state (at_place.Register number)

-- the frame has a slot of this number
abbrev pub is_within : Option ℕ → ℕ → Bool
is_within None number = false
is_within (Some size) number = nat_lt number size

abbrev pub has_slot : State → ℕ → Bool
has_slot state number = is_within state.frame number

-- what a slot within the frame holds
abbrev pub slot : State → ℕ → Option Held
slot state number = cond (has_slot state number) (at state (at_place.Slot number)) None

-- the identity of an argument's term, or of its unfilled hole
abbrev pub identity_in : Option Argument → Option ℕ
identity_in None = None
identity_in (Some (argument.Term identity)) = Some identity
identity_in (Some (argument.Unfilled identity)) = Some identity
identity_in (Some argument.Filled) = None
identity_in (Some argument.Barrier) = None

abbrev pub identity_of : State → ℕ → Option ℕ
identity_of state number = identity_in (slice_get state.arguments number)

-- an unfilled hole that a line made
abbrev pub is_made_hole : Option Identity → Bool
is_made_hole None = false
is_made_hole (Some (identity.Term k)) = false
is_made_hole (Some (identity.Own number)) = false
is_made_hole (Some identity.Made) = true

abbrev pub is_made : State → ℕ → Bool
is_made state number = is_made_hole (slice_get state.identities number)

-- no result with an unfilled hole
abbrev pub is_filled : Argument → Bool
is_filled (argument.Term identity) = true
is_filled (argument.Unfilled identity) = false
is_filled argument.Filled = true
is_filled argument.Barrier = true

abbrev pub has_filled_all : State → Bool
has_filled_all state = list_all is_filled state.arguments

-- the word with this identity in a place
abbrev pub set_held : State → Place → Held → State
set_held state (at_place.Register number) held = record state {
  identities = learn state.identities held.identity (strip_place held.holds);
  registers = set_place state.registers number held;
}
set_held state (at_place.Slot number) held = record state {
  identities = learn state.identities held.identity (strip_place held.holds);
  slots = set_place state.slots number held;
}

abbrev pub add_identity : State → Identity → State
add_identity state new = record state { identities = state.identities ++ new ∷ [] }

-- a word with a new identity in a place
abbrev pub set_new : State → Place → PlaceType → State
set_new state place holds =
    set_held (add_identity state (identity.Term (strip_place holds))) place (record { holds = holds; identity = length state.identities })

abbrev pub set_register : State → ℕ → PlaceType → State
set_register state number holds = set_new state (at_place.Register number) holds

-- after cells were bound no place is known to refer to an unbound cell
abbrev pub weaken : State → State
weaken state = record state {
  registers = weaken_places state.identities state.registers;
  slots = weaken_places state.identities state.slots;
}

abbrev pub filled_as : State → Option Identity → State
filled_as state None = state
filled_as state (Some (identity.Term k)) = state
filled_as state (Some (identity.Own number)) = record state { arguments = slice_set state.arguments number argument.Filled }
filled_as state (Some identity.Made) = record state { made = state.made - 1 }

-- after the hole of this identity was filled
abbrev pub fill : State → ℕ → State
fill state number = filled_as state (slice_get state.identities number)

abbrev pub whole_registers : State → State
whole_registers state = record state {
  identities = learn_wholes state.identities state.registers;
  registers = map whole_place state.registers;
}

abbrev pub whole_slots : State → State
whole_slots state = record state {
  identities = learn_wholes state.identities state.slots;
  slots = map whole_place state.slots;
}

-- once no hole that was made is unfilled, each structure is whole
abbrev pub settle : State → State
settle state = cond (nat_eq state.made 0) (whole_slots (whole_registers state)) state

-- no place of this identity is set
abbrev pub unset_all_of : State → ℕ → State
unset_all_of state identity = record state {
  registers = map (without identity) state.registers;
  slots = map (without identity) state.slots;
}

-- the number that the `catch` lines before name with a ball's label
abbrev pub caught_at : State → ℕ → Option ℕ
caught_at state label = flat_at state.caught label
