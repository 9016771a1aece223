-- Which keys are equal.
use Rattle.std.specs.Prelude.{◌==◌, Bool, true, false, ◌&&◌, not, List, [], ◌∷◌, Option, Some, None}
use Rattle.std.specs.Ordering.{int_eq}
use Rattle.std.specs.List.{list_any}
use Rattle.determinism.specs.declared.key.Key.{Key}
use Rattle.determinism.specs.declared.key.Key.TheVariants as key

abbrev pub same_key : Key → Key → Bool
same_key (key.Int a) (key.Int b) = int_eq a b
same_key (key.Atom a) (key.Atom b) = a.number == b.number
same_key (key.Functor a) (key.Functor b) = (a.arity == b.arity) && (a.name.number == b.name.number)
same_key _ _ = false

-- there is a key, and it is this one
abbrev pub is_same : Key → Option Key → Bool
is_same k (Some other) = same_key other k
is_same k None = false

-- there is a key, and it is another one
abbrev pub is_other : Key → Option Key → Bool
is_other k (Some other) = not (same_key other k)
is_other k None = false

-- there is a key at each place, and no two are equal
abbrev pub are_distinct : List (Option Key) → Bool
are_distinct [] = true
are_distinct (None ∷ ks) = false
are_distinct (Some k ∷ ks) = not (list_any (is_same k) ks) && are_distinct ks
