use Rattle.std.proofs.Common.{◌≤◌}
use Rattle.machine_unify.proofs.pairs.visit_all.Given as goal

abbrev pub invariant-loop-visits : goal.invariant-loop-visits
invariant-loop-visits l = l.visits ≤ l.fn.visits

abbrev pub decreases-loop-visits : goal.decreases-loop-visits
decreases-loop-visits l = l.visits
