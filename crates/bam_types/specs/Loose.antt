-- Weakening leaves no reference to an unbound cell known, whatever is learnt later.
use Rattle.std.specs.Prelude.{◌≡◌, Bool, true, false, List, refl}
use Rattle.bam_code.specs.declared.known.Known.{Known}
use Rattle.bam_code.specs.declared.known.Known.TheVariants as known
use Rattle.bam_code.specs.declared.place_type.PlaceType.{PlaceType}
use Rattle.bam_code.specs.declared.place_type.PlaceType.TheVariants as place
use Rattle.bam_code.specs.declared.word_type.WordType.{WordType}
use Rattle.bam_code.specs.declared.word_type.WordType.TheVariants as word
use Rattle.bam_types.specs.declared.held.Held.{Held}
use Rattle.bam_types.specs.declared.identity.Identity.{Identity}
use Rattle.bam_types.specs.Identities.{known_at}
use Rattle.bam_types.specs.PlaceTypes.{place_with, weakened_place}
use Rattle.bam_types.specs.Weakening.{weaken_held}
use Rattle.bam_types.specs.WordTypes.{weakened, with_ground, with_nonvar, word_with}

-- words of this type may be references to unbound cells, and are dereferenced
abbrev pub is_loose_word : WordType → Bool
is_loose_word word.Head = true
is_loose_word word.Var = true
is_loose_word _ = false

abbrev pub is_loose : PlaceType → Bool
is_loose (place.Word w) = is_loose_word w
is_loose _ = false

firm_any : (w : WordType) → is_loose_word (weakened w) ≡ false
firm_any word.Head = refl
firm_any _ = refl

firm_nonvar : (w : WordType) → is_loose_word (with_nonvar (weakened w)) ≡ false
firm_nonvar word.Head = refl
firm_nonvar _ = refl

firm_ground : (w : WordType) → is_loose_word (with_ground (weakened w)) ≡ false
firm_ground word.Head = refl
firm_ground _ = refl

firm_word : (w : WordType) (k : Known) → is_loose_word (word_with (weakened w) k) ≡ false
firm_word w known.Any = firm_any w
firm_word w known.Nonvar = firm_nonvar w
firm_word w known.Ground = firm_ground w

firm_place : (t : PlaceType) (k : Known) → is_loose (place_with (weakened_place t) k) ≡ false
firm_place (place.Word w) k = firm_word w k
firm_place (place.Cell w) k = refl
firm_place (place.Hole w) k = refl
firm_place (place.Part w) k = refl

-- a place that was weakened is neither a var nor a head with all that is known of its identity later
pub weakened_is_firm : (before later : List Identity) (held : Held) → is_loose (place_with (weaken_held before held).holds (known_at later held.identity)) ≡ false
weakened_is_firm before later held = firm_place (place_with held.holds (known_at before held.identity)) (known_at later held.identity)
