use Rattle.std.proofs.Common.{◌+◌, ◌≤◌, length}
use Rattle.bam_machine.proofs.ball.Making.make_compound.Given as goal

abbrev pub invariant-arguments : goal.invariant-arguments
invariant-arguments l = length l.initial.store.heap + l.counter ≤ length l.store.heap
