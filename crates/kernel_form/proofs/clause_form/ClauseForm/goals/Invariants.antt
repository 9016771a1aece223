use Rattle.std.proofs.Common.{◌<◌, ◌≤◌}
use Rattle.std.specs.List.{All}
use Rattle.std.specs.Option.{IfSome}
use Rattle.kernel_form.specs.Own.{IsGoalBelow}
use Rattle.kernel_form.proofs.clause_form.ClauseForm.goals.Given as goal

abbrev pub invariant-loop-place : goal.invariant-loop-place
invariant-loop-place l = record {
  barrier : IfSome l.barrier (λ own. own < l.variables);
  below : All (IsGoalBelow l.variables) l.goals;
  grows : l.fn.variables ≤ l.variables;
}
