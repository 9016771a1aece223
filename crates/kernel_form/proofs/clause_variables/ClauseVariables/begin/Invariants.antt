use Rattle.std.proofs.Common.{◌≡◌}
use Rattle.kernel_form.proofs.clause_variables.ClauseVariables.begin.Given as goal

abbrev pub invariant-loop-variable : goal.invariant-loop-variable
invariant-loop-variable l = l.self ≡ l.variable-index
