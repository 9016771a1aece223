-- All plans of a predicate agree on whether each call has one clause at most whose head fits.
use Rattle.std.proofs.Common.{◌≡◌, ℕ, ◌<◌, Bool, true, false, Option, Some, None, ◌⊎◌, inl, inr, refl, sym, ap, ◌∙◌}
use Rattle.determinism.specs.Plans.{IsPlanOf, is_det, keys_for}
use Rattle.determinism.specs.Selection.{IsLeast, IsSelected, has_key, tells_apart, telling, keyed}
use Rattle.determinism.specs.declared.predicate_plan.Plan.{Plan}
use Rattle.flow_equations.specs.declared.predicate_facts.PredicateFacts.{PredicateFacts}
use Rattle.kernel_ir.specs.declared.kernel_predicate.KernelPredicate.{KernelPredicate}
use Rattle.std.proofs.lemmas.Bool.{cases_order}

not_both : (b : Bool) → b ≡ true → b ≡ false → ⊥
not_both b is other = cc

same_least : (test : ℕ → Bool) (n i j : ℕ) → IsLeast test n (Some i) → IsLeast test n (Some j) → (i ≡ j) ⊎ ((i < j) ⊎ (j < i)) → Some i ≡ Some j
same_least test n i j at other (inl same) = ap Some same
same_least test n i j at other (inr (inl below)) = absurd (not_both (test i) at.1 (other.2 i below))
same_least test n i j at other (inr (inr above)) = absurd (not_both (test j) other.1 (at.2 j above))

one_least : (test : ℕ → Bool) (n : ℕ) (a b : Option ℕ) → IsLeast test n a → IsLeast test n b → a ≡ b
one_least test n None None at other = refl
one_least test n None (Some j) at other = absurd (not_both (test j) other.1 (at j other.0))
one_least test n (Some i) None at other = absurd (not_both (test i) at.1 (other i at.0))
one_least test n (Some i) (Some j) at other = same_least test n i j at other (cases_order i j)

one_selected : (p : KernelPredicate) (own : PredicateFacts) (a b : Option ℕ) → IsSelected p own.call a → IsSelected p own.call b → a ≡ b
one_selected p own _ _ (telling i at) (telling j other) = one_least (tells_apart p own.call) p.name.width (Some i) (Some j) at other
one_selected p own _ _ (telling i at) (keyed b none other) = absurd (not_both (tells_apart p own.call i) at.1 (none i at.0))
one_selected p own _ _ (keyed a none at) (telling j other) = absurd (not_both (tells_apart p own.call j) other.1 (none j other.0))
one_selected p own _ _ (keyed a none at) (keyed b never other) = one_least (has_key p) p.name.width a b at other

det_by : (p : KernelPredicate) (own : PredicateFacts) (plan : Plan) → IsPlanOf p own.call plan → plan.det ≡ is_det p own.call plan.selected (keys_for p plan.selected)
det_by p own plan is = is.det ∙ ap (is_det p own.call plan.selected) is.keys

pub one_det : (p : KernelPredicate) (own : PredicateFacts) (plan other : Plan) → IsPlanOf p own.call plan → IsPlanOf p own.call other → plan.det ≡ other.det
one_det p own plan other is also =
    det_by p own plan is ∙ ap (λ s. is_det p own.call s (keys_for p s)) (one_selected p own plan.selected other.selected is.selected also.selected) ∙ sym (det_by p own other also)
