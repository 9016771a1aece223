-- What types of places say, and their order.
use Rattle.std.specs.Prelude.{Bool, true, false, ◌&&◌}
use Rattle.bam_code.specs.declared.known.Known.{Known}
use Rattle.bam_code.specs.declared.known.Known.TheVariants as known
use Rattle.bam_code.specs.declared.place_type.PlaceType.{PlaceType}
use Rattle.bam_code.specs.declared.place_type.PlaceType.TheVariants as place
use Rattle.bam_code.specs.declared.word_type.WordType.{WordType}
use Rattle.bam_code.specs.declared.word_type.WordType.TheVariants as word
use Rattle.bam_types.specs.WordTypes.{word_below, word_with, strip_word, deref_word, weakened}

-- the type of which only this is known
abbrev pub known_word : Known → WordType
known_word known.Any = word.Any
known_word known.Nonvar = word.Nonvar
known_word known.Ground = word.Ground

-- whether both are below each other
abbrev pub same_word : WordType → WordType → Bool
same_word t u = word_below t u && word_below u t

-- whether each place of the first type is of the second
abbrev pub place_below : PlaceType → PlaceType → Bool
place_below (place.Word t) (place.Word u) = word_below t u
place_below (place.Cell t) (place.Word u) = word_below (known_word (strip_word t)) u
place_below (place.Cell t) (place.Cell u) = same_word t u
place_below (place.Hole t) (place.Hole u) = same_word t u
place_below (place.Part t) (place.Part u) = same_word t u
place_below _ _ = false

-- what a place's type says of the term alone
abbrev pub strip_place : PlaceType → Known
strip_place (place.Word t) = strip_word t
strip_place (place.Cell t) = strip_word t
strip_place (place.Hole t) = known.Any
strip_place (place.Part t) = known.Any

-- the type of a place of whose term this is known
abbrev pub place_with : PlaceType → Known → PlaceType
place_with (place.Word t) k = place.Word (word_with t k)
place_with t k = t

-- the type of the place's dereferenced word
abbrev pub deref_place : PlaceType → PlaceType
deref_place (place.Word t) = place.Word (deref_word t)
deref_place (place.Cell t) = place.Word (deref_word t)
deref_place t = t

-- the type after cells were bound
abbrev pub weakened_place : PlaceType → PlaceType
weakened_place (place.Word t) = place.Word (weakened t)
weakened_place t = t

-- the type once no hole that was made is unfilled
abbrev pub whole : PlaceType → PlaceType
whole (place.Part t) = place.Word t
whole t = t
