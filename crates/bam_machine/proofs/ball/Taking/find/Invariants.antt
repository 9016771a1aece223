use Rattle.std.proofs.Common.{◌≤◌}
use Rattle.bam_machine.proofs.ball.Taking.find.Given as goal

abbrev pub invariant-variables : goal.invariant-variables
invariant-variables l = l.left ≤ l.fn.left

abbrev pub decreases-variables : goal.decreases-variables
decreases-variables l = l.left
