-- Keys as a set holds them.
use Rattle.std.specs.Prelude.{ℕ, ℤ, pos, Bool, ◌&&◌, nat_eq}
use Rattle.std.specs.Ordering.{int_eq}
use Rattle.determinism.specs.declared.key.Key.{Key}
use Rattle.determinism.specs.declared.key.Key.TheVariants as key

abbrev pub entry_of : Key → ℕ × ℕ × ℕ × ℤ
entry_of (key.Int z) = (0, 0, 0, z)
entry_of (key.Atom a) = (1, 0, a.number, pos 0)
entry_of (key.Functor f) = (2, f.arity, f.name.number, pos 0)

abbrev pub same_entry : ℕ × ℕ × ℕ × ℤ → ℕ × ℕ × ℕ × ℤ → Bool
same_entry x y = ((nat_eq x.0 y.0 && nat_eq x.1 y.1) && nat_eq x.2 y.2) && int_eq x.3 y.3
