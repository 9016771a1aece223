-- When a state fits a label.
use Rattle.std.specs.Prelude.{Bool, true, false, cond, ◌&&◌, ℕ, nat_eq, List, Option, Some, None, is_none, option_map, slice_get}
use Rattle.std.specs.List.{list_all}
use Rattle.bam_code.specs.declared.item.Item.{Item}
use Rattle.bam_code.specs.declared.item.Item.TheVariants as item
use Rattle.bam_code.specs.declared.known.Known.{Known}
use Rattle.bam_code.specs.declared.place.Place.{Place}
use Rattle.bam_code.specs.declared.place.Place.TheVariants as at_place
use Rattle.bam_code.specs.declared.place_type.PlaceType.{PlaceType}
use Rattle.bam_types.specs.declared.argument.Argument.{Argument}
use Rattle.bam_types.specs.declared.argument.Argument.TheVariants as argument
use Rattle.bam_types.specs.declared.fit.Seen.{Seen}
use Rattle.bam_types.specs.declared.held.Held.{Held}
use Rattle.bam_types.specs.declared.state.State.{State}
use Rattle.bam_types.specs.Identities.{known_at}
use Rattle.bam_types.specs.Labels.{Label, slots_listed}
use Rattle.bam_types.specs.PlaceTypes.{place_below, place_with}
use Rattle.bam_types.specs.States.{kept, identity_of}
use Rattle.bam_types.specs.Weakening.{count_set}
use Rattle.bam_types.specs.WordTypes.{both_known, follows}

-- what is known of an identity's term in a state, where a branch may add to it
abbrev pub branch_known : State → Option Seen → ℕ → Known
branch_known state None identity = known_at state.identities identity
branch_known state (Some seen) identity =
    cond (nat_eq seen.identity identity) (both_known (known_at state.identities identity) seen.known) (known_at state.identities identity)

abbrev pub is_register : Place → ℕ → Bool
is_register (at_place.Register number) register = nat_eq number register
is_register (at_place.Slot number) register = false

-- what is kept of a place, where a branch may change that of one register
abbrev pub branch_kept : State → Option Seen → Place → Option Held
branch_kept state None place = kept state place
branch_kept state (Some seen) place =
    cond (is_register place seen.register) (Some record { holds = seen.holds; identity = seen.identity }) (kept state place)

abbrev pub branch_held : State → Option Seen → Held → Held
branch_held state seen held =
    record { holds = place_with held.holds (branch_known state seen held.identity); identity = held.identity }

-- what a place holds at a branch
abbrev pub branch_at : State → Option Seen → Place → Option Held
branch_at state seen place = option_map (branch_held state seen) (branch_kept state seen place)

-- so much is known of an argument's term
abbrev pub argument_follows : State → Option Seen → Option Argument → Known → Bool
argument_follows state seen None known = false
argument_follows state seen (Some (argument.Term identity)) known = follows (branch_known state seen identity) known
argument_follows state seen (Some (argument.Unfilled identity)) known = false
argument_follows state seen (Some argument.Filled) known = false
argument_follows state seen (Some argument.Barrier) known = false

abbrev pub has_known : State → Option Seen → ℕ → Known → Bool
has_known state seen number known = argument_follows state seen (slice_get state.arguments number) known

abbrev pub is_same : ℕ → Option ℕ → Bool
is_same identity None = false
is_same identity (Some other) = nat_eq other identity

-- a place has the identity of the argument that marks it
abbrev pub is_marked : State → Held → Option ℕ → Bool
is_marked state held None = true
is_marked state held (Some number) = is_same held.identity (identity_of state number)

abbrev pub holds_as : State → Option Held → PlaceType → Option ℕ → Bool
holds_as state None holds mark = false
holds_as state (Some held) holds mark = place_below held.holds holds && is_marked state held mark

-- an item of a label holds
abbrev pub has : State → Option Seen → Item → Bool
has state seen (item.Argument number known) = has_known state seen number known
has state seen (item.Place place holds mark) = holds_as state (branch_at state seen place) holds mark

-- all items of a label hold
abbrev pub has_all : State → Option Seen → List Item → Bool
has_all state seen items = list_all (has state seen) items

abbrev pub same_frame : Option ℕ → Option ℕ → Bool
same_frame None None = true
same_frame None (Some right) = false
same_frame (Some left) None = false
same_frame (Some left) (Some right) = nat_eq left right

-- a state fits a label where the frame is the same, no push is due, all items hold, and as many slots are set as are listed
abbrev pub fits : State → Option Seen → Label → Bool
fits state seen label =
    same_frame state.frame label.frame && is_none state.opening && has_all state seen label.items && nat_eq (count_set state.slots) (slots_listed label.items)
