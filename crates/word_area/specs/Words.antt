-- The words of an area.
use Rattle.std.specs.Prelude.{◌≡◌, ℕ, ◌+◌, ◌<◌, List, ◌++◌, Option, Some, None, get_or, take, drop}
use Rattle.tag_word.specs.Tagged.{Tagged}

-- the word at an index was set
abbrev pub IsSetAt : List (Option Tagged) → ℕ → Type 0
IsSetAt words i = (word : Tagged) × (get_or words i None ≡ Some word)

-- each of `count` words from an index on was set
abbrev pub AreSetFrom : List (Option Tagged) → ℕ → ℕ → Type 0
AreSetFrom words from count = (i : ℕ) → i < count → IsSetAt words (from + i)

-- what `count` words from an index on are copied to at another index, all others being as they were
abbrev pub copied : ℕ → ℕ → ℕ → List (Option Tagged) → List (Option Tagged)
copied from to count words = take to words ++ take count (drop from words) ++ drop (to + count) words
