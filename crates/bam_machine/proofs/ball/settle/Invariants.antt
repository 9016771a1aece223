use Rattle.std.proofs.Common.{◌≡◌, length}
use Rattle.bam_machine.proofs.ball.settle.Given as goal

abbrev pub invariant-cells : goal.invariant-cells
invariant-cells l = length l.store.heap ≡ length l.initial.store.heap
