use Rattle.std.proofs.Common.{◌≤◌}
use Rattle.machine_terms.proofs.copy_term.Copying.find.Given as goal

abbrev pub invariant-variables : goal.invariant-variables
invariant-variables l = l.left ≤ l.fn.left

abbrev pub decreases-variables : goal.decreases-variables
decreases-variables l = l.left
