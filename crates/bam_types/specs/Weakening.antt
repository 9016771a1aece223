-- The registers or the slots, by their numbers, and how an instruction changes all of them.
use Rattle.std.specs.Prelude.{Bool, true, false, cond, ℕ, ◌+◌, ◌-◌, suc, nat_eq, List, [], ◌∷◌, ◌++◌, length, replicate, fold, map, Option, Some, None, is_some, option_map, slice_get, slice_set}
use Rattle.bam_code.specs.declared.place_type.PlaceType.{PlaceType}
use Rattle.bam_code.specs.declared.place_type.PlaceType.TheVariants as place
use Rattle.bam_types.specs.declared.held.Held.{Held}
use Rattle.bam_types.specs.declared.identity.Identity.{Identity}
use Rattle.bam_types.specs.Identities.{known_at, learn}
use Rattle.bam_types.specs.PlaceTypes.{place_with, strip_place, weakened_place, whole}

abbrev pub held : PlaceType → ℕ → Held
held holds identity = record { holds = holds; identity = identity }

-- what stands at a place that may be past the end, where nothing is set
abbrev pub flat : {A : Type 0} → Option (Option A) → Option A
flat None = None
flat (Some held) = held

abbrev pub flat_at : {A : Type 0} → List (Option A) → ℕ → Option A
flat_at places number = flat (slice_get places number)

-- what the place of this number holds, if it is set
abbrev pub held_at : List (Option Held) → ℕ → Option Held
held_at places number = flat_at places number

-- how many places are set
abbrev pub count_set : List (Option Held) → ℕ
count_set [] = 0
count_set (place ∷ places) = cond (is_some place) 1 0 + count_set places

-- with at least as many places, the new ones being unset
abbrev pub padded : {A : Type 0} → List (Option A) → ℕ → List (Option A)
padded places size = places ++ replicate (size - length places) None

abbrev pub set_place : List (Option Held) → ℕ → Held → List (Option Held)
set_place places number held = slice_set (padded places (number + 1)) number (Some held)

abbrev pub unset_place : List (Option Held) → ℕ → List (Option Held)
unset_place places number = slice_set places number None

-- a place of this identity unset
abbrev pub without : ℕ → Option Held → Option Held
without identity None = None
without identity (Some held) = cond (nat_eq held.identity identity) None (Some held)

-- a place whose word's type says what is known of its identity
abbrev pub with_known : List Identity → Held → Held
with_known identities held =
    record { holds = place_with held.holds (known_at identities held.identity); identity = held.identity }

-- a place after cells were bound: a reference to an unbound cell is any word
abbrev pub weaken_held : List Identity → Held → Held
weaken_held identities held =
    record { holds = weakened_place (place_with held.holds (known_at identities held.identity)); identity = held.identity }

abbrev pub weaken_place : List Identity → Option Held → Option Held
weaken_place identities place = option_map (weaken_held identities) place

-- each place after cells were bound
abbrev pub weaken_places : List Identity → List (Option Held) → List (Option Held)
weaken_places identities places = map (weaken_place identities) places

-- a place once no hole that was made is unfilled
abbrev pub whole_held : Held → Held
whole_held held = record { holds = whole held.holds; identity = held.identity }

abbrev pub whole_place : Option Held → Option Held
whole_place place = option_map whole_held place

-- what the structure of a place says once it is whole
abbrev pub learn_whole : List Identity → Option Held → List Identity
learn_whole identities None = identities
learn_whole identities (Some held) = learn identities held.identity (strip_place (whole held.holds))

abbrev pub learn_wholes : List Identity → List (Option Held) → List Identity
learn_wholes identities places = fold learn_whole identities places

-- the type of a place that held a hole which was passed
abbrev pub passed_type : PlaceType → PlaceType
passed_type (place.Hole word) = place.Cell word
passed_type other = other

-- a place after the hole of this identity was passed and filled
abbrev pub pass_place : ℕ → Option Held → Option Held
pass_place identity None = None
pass_place identity (Some held) =
    cond (nat_eq held.identity identity) (Some record { holds = passed_type held.holds; identity = held.identity }) (Some held)

-- what such a place says of the term that was filled in
abbrev pub learn_passed : ℕ → List Identity → Option Held → List Identity
learn_passed identity identities None = identities
learn_passed identity identities (Some held) =
    cond (nat_eq held.identity identity) (learn identities identity (strip_place (passed_type held.holds))) identities

abbrev pub learn_all_passed : ℕ → List Identity → List (Option Held) → List Identity
learn_all_passed identity identities places = fold (learn_passed identity) identities places
