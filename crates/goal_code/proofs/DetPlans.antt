-- What a plan says by which each call has one clause at most whose head fits.
use Rattle.std.proofs.Common.{◌≡◌, Bool, true, false, sym, length, ◌∙◌}
use Rattle.std.specs.Prelude.{◌==◌, ◌&&◌, ◌||◌, IsTrue}
use Rattle.determinism.specs.Distinct.{are_distinct}
use Rattle.determinism.specs.Plans.{IsPlanOf, selects_bound}
use Rattle.determinism.specs.declared.predicate_plan.Plan.{Plan}
use Rattle.kernel_ir.specs.declared.kernel_predicate.KernelPredicate.{KernelPredicate}
use Rattle.type_lattice.specs.declared.fact.Fact.{Fact}
use Rattle.std.specs.Prelude.{List}

both_behind : (one bound distinct : Bool) → one ≡ false → (one || (bound && distinct)) ≡ true → IsTrue bound × IsTrue distinct
both_behind true bound distinct other e = absurd (let never : ⊥ = cc in never)
both_behind false true true other e = (e, e)
both_behind false true false other e = absurd (let never : ⊥ = cc in never)
both_behind false false distinct other e = absurd (let never : ⊥ = cc in never)

-- of several clauses each has a key of its own at an argument that is never a variable
pub det_several : (p : KernelPredicate) (call : List Fact) (plan : Plan) → IsPlanOf p call plan → IsTrue plan.det → (length p.clauses == 1) ≡ false
    → IsTrue (selects_bound call plan.selected) × IsTrue (are_distinct plan.keys)
det_several p call plan is det several =
    both_behind (length p.clauses == 1) (selects_bound call plan.selected) (are_distinct plan.keys) several (sym is.det ∙ det)
