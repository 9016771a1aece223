-- What is so of the procedures of a program, by the predicates, their facts and their plans.
use Rattle.std.specs.Prelude.{◌≡◌, ◌≤◌, ℕ, IsTrue, List, [], ◌∷◌, ◌++◌, Option, Some, None, length, slice_get}
use Rattle.std.specs.List.{list_all}
use Rattle.bam_code.specs.declared.procedure.Proc.{Proc}
use Rattle.determinism.specs.Plans.{IsPlanOf}
use Rattle.determinism.specs.declared.predicate_plan.Plan.{Plan}
use Rattle.flow_equations.specs.declared.predicate_facts.PredicateFacts.{PredicateFacts}
use Rattle.goal_code.specs.GoalLines.{is_plain_clause}
use Rattle.goal_code.specs.StepCounts.{OnlyReturns, choices_of, ends_of}
use Rattle.goal_code.specs.declared.procedure.Planned.{Planned}
use Rattle.kernel_ir.specs.declared.kernel_predicate.KernelPredicate.{KernelPredicate}

pub record IsProcedureOf (p : KernelPredicate) (own : PredicateFacts) (plan : Plan) (proc : Proc) : Type 0 where
  pub name : proc.signature.name ≡ p.name
  -- where each call has one clause at most whose head fits, no choice is made
  pub det : IsPlanOf p own.call plan → IsTrue plan.det → choices_of proc.lines ≡ 0
  -- no clause is left out: each has an end
  pub ended : length plan.keys ≡ length p.clauses → length p.clauses ≤ ends_of proc.lines
  -- where the goals are unifications, built-ins and cuts alone, each clause returns, and none fails by a line
  pub plain : length plan.keys ≡ length p.clauses → IsTrue (list_all is_plain_clause p.clauses) → OnlyReturns (length p.clauses) [] proc.lines

-- the procedure of the predicate at some place
pub record IsProcedure (ps : List KernelPredicate) (fs : List PredicateFacts) (plans : List Plan) (proc : Proc) : Type 0 where
  pub place : ℕ
  pub predicate : KernelPredicate
  pub own : PredicateFacts
  pub plan : Plan
  pub predicate_is : slice_get ps place ≡ Some predicate
  pub own_is : slice_get fs place ≡ Some own
  pub plan_is : slice_get plans place ≡ Some plan
  pub reached : IsTrue own.reached
  pub made : IsProcedureOf predicate own plan proc

-- one procedure more where the predicate is reached
abbrev pub MoreProcs : Option Planned → List Proc → List Proc → Type 0
MoreProcs None old new = new ≡ old
MoreProcs (Some planned) old new =
    (proc : Proc) × (new ≡ old ++ proc ∷ []) × IsProcedureOf planned.predicate.now planned.own.now planned.plan.now proc
