-- Which argument of a predicate tells its clauses apart.
use Rattle.std.specs.Prelude.{◌≡◌, ◌<◌, ℕ, Bool, true, false, ◌&&◌, is_some, List, [], ◌∷◌, Option, Some, None, map}
use Rattle.std.specs.List.{list_any}
use Rattle.type_lattice.specs.declared.fact.Fact.{Fact}
use Rattle.type_lattice.specs.declared.fact.Fact.TheVariants as fact
use Rattle.type_lattice.specs.Facts.{below}
use Rattle.flow_equations.specs.Env.{fact_of}
use Rattle.kernel_ir.specs.declared.kernel_predicate.KernelPredicate.{KernelPredicate}
use Rattle.determinism.specs.declared.key.Key.{Key}
use Rattle.determinism.specs.Keys.{clause_key, first_of}
use Rattle.determinism.specs.Distinct.{is_other}

-- the first key that there is
abbrev pub first_key : List (Option Key) → Option Key
first_key [] = None
first_key (k ∷ ks) = first_of k (first_key ks)

abbrev pub differs_from : Option Key → List (Option Key) → Bool
differs_from None ks = false
differs_from (Some k) ks = list_any (is_other k) ks

-- two keys differ: one of them is another than the first
abbrev pub keys_differ : List (Option Key) → Bool
keys_differ ks = differs_from (first_key ks) ks

-- the keys of a predicate's clauses at an argument
abbrev pub keys_at : KernelPredicate → ℕ → List (Option Key)
keys_at p i = map (clause_key i) p.clauses

-- the argument is never a variable at a call
abbrev pub is_bound : List Fact → ℕ → Bool
is_bound call i = below (fact_of call i) fact.Nonvar

-- the argument is never a variable at a call, and two clauses have different keys at it
abbrev pub tells_apart : KernelPredicate → List Fact → ℕ → Bool
tells_apart p call i = is_bound call i && keys_differ (keys_at p i)

-- some clause has a key at the argument
abbrev pub has_key : KernelPredicate → ℕ → Bool
has_key p i = is_some (first_key (keys_at p i))

-- the least number below n of which it is so, where there is one
abbrev pub IsLeast : (ℕ → Bool) → ℕ → Option ℕ → Type 0
IsLeast test n (Some i) = (i < n) × (test i ≡ true) × ((j : ℕ) → j < i → test j ≡ false)
IsLeast test n None = (j : ℕ) → j < n → test j ≡ false

-- the least argument that is never a variable and tells clauses apart; where there is none, the least at which there is a key
pub data IsSelected (p : KernelPredicate) (call : List Fact) : Option ℕ → Type 0 where
  telling : (i : ℕ) → IsLeast (tells_apart p call) p.name.width (Some i) → IsSelected p call (Some i)
  keyed :
      (selected : Option ℕ) → IsLeast (tells_apart p call) p.name.width None → IsLeast (has_key p) p.name.width selected
      → IsSelected p call selected
