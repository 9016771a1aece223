use Rattle.std.proofs.Common.{length}
use Rattle.bam_text.proofs.ground.ground.Given as goal

abbrev pub invariant-loop-stack : goal.invariant-loop-stack
invariant-loop-stack l = Unit {0}

abbrev pub decreases-loop-stack : goal.decreases-loop-stack
decreases-loop-stack l = length l.fields
