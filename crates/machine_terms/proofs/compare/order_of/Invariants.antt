use Rattle.std.proofs.Common.{◌≤◌}
use Rattle.machine_terms.proofs.compare.order_of.Given as goal

abbrev pub invariant-pairs : goal.invariant-pairs
invariant-pairs l = l.left ≤ l.fn.left

abbrev pub decreases-pairs : goal.decreases-pairs
decreases-pairs l = l.left
