use Rattle.std.proofs.Common.{◌≤◌}
use Rattle.machine_terms.proofs.univ.length_of.Given as goal

abbrev pub invariant-cells : goal.invariant-cells
invariant-cells l = l.left ≤ l.fn.left

abbrev pub decreases-cells : goal.decreases-cells
decreases-cells l = l.left
