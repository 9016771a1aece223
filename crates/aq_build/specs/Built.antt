-- What is so of the procedures of built code, by the predicates and their facts.
use Rattle.std.specs.Prelude.{◌≡◌, ◌≤◌, ℕ, IsTrue, List, Some, length, slice_get}
use Rattle.std.specs.List.{list_all}
use Rattle.bam_code.specs.declared.line.Line.{Line}
use Rattle.bam_code.specs.declared.procedure.Proc.{Proc}
use Rattle.determinism.specs.Plans.{IsPlanOf}
use Rattle.determinism.specs.declared.predicate_plan.Plan.{Plan}
use Rattle.flow_equations.specs.declared.predicate_facts.PredicateFacts.{PredicateFacts}
use Rattle.goal_code.specs.GoalLines.{is_plain_clause}
use Rattle.goal_code.specs.StepCounts.{choices_of, ends_of, returns_of}
use Rattle.kernel_ir.specs.declared.kernel_predicate.KernelPredicate.{KernelPredicate}

-- lines with so many ends at most, each of them a return
pub record EndsByReturns (most : ℕ) (lines : List Line) : Type 0 where
  pub ends : ends_of lines ≤ most
  pub returns : returns_of lines ≡ ends_of lines

pub record IsBuiltOf (p : KernelPredicate) (own : PredicateFacts) (proc : Proc) : Type 0 where
  pub name : proc.signature.name ≡ p.name
  -- where each call has one clause at most whose head fits, no choice is made
  pub det : (plan : Plan) → IsPlanOf p own.call plan → IsTrue plan.det → choices_of proc.lines ≡ 0
  -- where the goals are unifications, built-ins and cuts alone, control leaves the procedure by returns alone, of which there are
  -- no more than clauses
  pub plain : IsTrue (list_all is_plain_clause p.clauses) → EndsByReturns (length p.clauses) proc.lines

-- the procedure of the predicate at some place
pub record IsBuilt (ps : List KernelPredicate) (fs : List PredicateFacts) (proc : Proc) : Type 0 where
  pub place : ℕ
  pub predicate : KernelPredicate
  pub own : PredicateFacts
  pub predicate_is : slice_get ps place ≡ Some predicate
  pub own_is : slice_get fs place ≡ Some own
  pub reached : IsTrue own.reached
  pub made : IsBuiltOf predicate own proc
