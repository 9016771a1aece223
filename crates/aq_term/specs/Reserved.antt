-- The predicates that programs may neither define nor call, by the number of their name and by how many arguments they take.
use Rattle.std.specs.Prelude.{ℕ, ◌==◌, Bool, false, ◌||◌, List, [], ◌∷◌, if◌then◌else◌}

abbrev is_one_of : List ℕ → ℕ → Bool
is_one_of [] n = false
is_one_of (m ∷ ms) n = n == m || is_one_of ms n

abbrev pub with_one : ℕ → Bool
with_one = is_one_of (81 ∷ 85 ∷ 86 ∷ 87 ∷ 88 ∷ 89 ∷ 91 ∷ 93 ∷ 96 ∷ 98 ∷ 100 ∷ 101 ∷ 102 ∷ 104 ∷ 113 ∷ 117 ∷ 0 ∷ 2 ∷ [])

abbrev pub with_two : ℕ → Bool
with_two = is_one_of (81 ∷ 90 ∷ 97 ∷ 99 ∷ 103 ∷ 105 ∷ 108 ∷ 109 ∷ 110 ∷ 111 ∷ 112 ∷ 114 ∷ 115 ∷ 1 ∷ 0 ∷ [])

abbrev pub with_three : ℕ → Bool
with_three = is_one_of (81 ∷ 82 ∷ 83 ∷ 84 ∷ 94 ∷ 95 ∷ 106 ∷ 116 ∷ [])

abbrev pub is_reserved : ℕ → ℕ → Bool
is_reserved n arity =
    if arity == 0 then is_one_of (92 ∷ 93 ∷ []) n
    else if arity == 1 then with_one n
    else if arity == 2 then with_two n
    else if arity == 3 then with_three n
    else if arity == 4 then is_one_of (81 ∷ 116 ∷ []) n
    else if arity == 5 then is_one_of (81 ∷ 107 ∷ []) n
    else if is_one_of (6 ∷ 7 ∷ 8 ∷ []) arity then n == 81
    else false
