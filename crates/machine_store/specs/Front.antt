-- The words that stand at the start of an area's memory.
use Rattle.std.specs.Prelude.{ℕ, zero, suc, List, [], ◌∷◌, Option, Some, None}
use Rattle.tag_word.specs.Tagged.{Tagged}

-- the words of the first `count` places, up to the first place that was not set
abbrev pub front : ℕ → List (Option Tagged) → List Tagged
front zero places = []
front (suc count) [] = []
front (suc count) (None ∷ places) = []
front (suc count) (Some word ∷ places) = word ∷ front count places
