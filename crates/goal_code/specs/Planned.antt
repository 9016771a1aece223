-- A predicate that has a procedure, and its signature.
use Rattle.std.specs.Prelude.{◌≡◌, IsTrue, List, [], ◌∷◌, Option, None, Some}
use Rattle.bam_code.specs.declared.signature.Signature.{Signature}
use Rattle.determinism.specs.declared.predicate_plan.Plan.{Plan}
use Rattle.flow_equations.specs.declared.predicate_facts.PredicateFacts.{PredicateFacts}
use Rattle.goal_code.specs.Signatures.{signature_due}
use Rattle.goal_code.specs.declared.procedure.Planned.{Planned}
use Rattle.kernel_ir.specs.declared.kernel_predicate.KernelPredicate.{KernelPredicate}

abbrev pub signature_planned : Option Planned → List Signature
signature_planned None = []
signature_planned (Some planned) = signature_due planned.predicate.now planned.own.now planned.results.now ∷ []

-- it is reached, and stands with its facts and its plan
pub record IsPlanned (p : KernelPredicate) (facts : Option PredicateFacts) (plan : Plan) (planned : Planned) : Type 0 where
  pub predicate_is : planned.predicate.now ≡ p
  pub own_is : facts ≡ Some planned.own.now
  pub plan_is : planned.plan.now ≡ plan
  pub reached : IsTrue planned.own.now.reached
