-- How a call of a predicate finds its clauses.
use Rattle.std.specs.Prelude.{◌≡◌, ◌==◌, ℕ, Bool, false, ◌&&◌, ◌||◌, List, [], Option, Some, None, length, map, slice_get}
use Rattle.std.specs.Borrow.{Bor}
use Rattle.type_lattice.specs.declared.fact.Fact.{Fact}
use Rattle.flow_equations.specs.declared.predicate_facts.PredicateFacts.{PredicateFacts}
use Rattle.kernel_ir.specs.declared.kernel_predicate.KernelPredicate.{KernelPredicate}
use Rattle.determinism.specs.declared.key.Key.{Key}
use Rattle.determinism.specs.declared.predicate_plan.Plan.{Plan}
use Rattle.determinism.specs.Distinct.{are_distinct}
use Rattle.determinism.specs.Selection.{IsSelected, is_bound, keys_at}

-- the keys at the selected argument, none where none is selected
abbrev pub keys_for : KernelPredicate → Option ℕ → List (Option Key)
keys_for p None = map (λ _. None) p.clauses
keys_for p (Some i) = keys_at p i

-- the selected argument is never a variable at a call
abbrev pub selects_bound : List Fact → Option ℕ → Bool
selects_bound call None = false
selects_bound call (Some i) = is_bound call i

-- there is one clause, or the selected argument is never a variable and each clause has a key of its own there
abbrev pub is_det : KernelPredicate → List Fact → Option ℕ → List (Option Key) → Bool
is_det p call selected keys = (length p.clauses == 1) || (selects_bound call selected && are_distinct keys)

pub record IsPlanOf (p : KernelPredicate) (call : List Fact) (plan : Plan) : Type 0 where
  pub selected : IsSelected p call plan.selected
  pub keys : plan.keys ≡ keys_for p plan.selected
  pub det : plan.det ≡ is_det p call plan.selected plan.keys

-- the facts at calls of the predicate at a place, where they are listed
abbrev pub call_of : Option PredicateFacts → List Fact
call_of None = []
call_of (Some facts) = facts.call

-- the facts that a reference leads to
abbrev pub facts_at : Option (Bor PredicateFacts) → Option PredicateFacts
facts_at None = None
facts_at (Some known) = Some known.now

-- each predicate has its plan
abbrev pub ArePlans : List KernelPredicate → List PredicateFacts → List Plan → Type 0
ArePlans ps facts plans =
    (i : ℕ) (p : KernelPredicate) (plan : Plan) → slice_get ps i ≡ Some p → slice_get plans i ≡ Some plan
    → IsPlanOf p (call_of (slice_get facts i)) plan
