use Rattle.std.proofs.Common.{◌≤◌}
use Rattle.machine_terms.proofs.copy_term.copy_compound.Given as goal

abbrev pub invariant-arguments : goal.invariant-arguments
invariant-arguments l = l.left ≤ l.fn.left

abbrev pub decreases-arguments : goal.decreases-arguments
decreases-arguments l = l.left
