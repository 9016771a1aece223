use Rattle.std.proofs.Common.{◌≤◌}
use Rattle.machine_terms.proofs.evaluate.value_of.Given as goal

abbrev pub invariant-nodes : goal.invariant-nodes
invariant-nodes l = l.left ≤ l.fn.left

abbrev pub decreases-nodes : goal.decreases-nodes
decreases-nodes l = l.left
