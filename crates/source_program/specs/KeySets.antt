-- Predicates by the number of their name and by how many arguments they have.
use Rattle.std.specs.Prelude.{Bool, ◌&&◌, nat_eq, List, [], ◌∷◌, ◌++◌, if◌then◌else◌}
use Rattle.std.specs.List.{list_any}
use Rattle.source_program.specs.Keys.{Key}

abbrev pub same_key : Key → Key → Bool
same_key k l = nat_eq k.0 l.0 && nat_eq k.1 l.1

abbrev pub is_among : List Key → Key → Bool
is_among ks k = list_any (same_key k) ks

-- the keys with one more, at the end where it is not there
abbrev pub with_key : List Key → Key → List Key
with_key ks k = if is_among ks k then ks else ks ++ k ∷ []
