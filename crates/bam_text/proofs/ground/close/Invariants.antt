use Rattle.std.proofs.Common.{◌≤◌, length}
use Rattle.bam_text.proofs.ground.close.Given as goal

abbrev pub invariant-loop-open : goal.invariant-loop-open
invariant-loop-open l = length l.fields ≤ length l.fn.fields

abbrev pub decreases-loop-open : goal.decreases-loop-open
decreases-loop-open l = length l.stack.items
