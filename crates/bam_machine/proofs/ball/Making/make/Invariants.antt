use Rattle.std.proofs.Common.{◌≤◌, length}
use Rattle.bam_machine.proofs.ball.Making.make.Given as goal

abbrev pub invariant-items : goal.invariant-items
invariant-items l = length l.initial.store.heap ≤ length l.store.heap
