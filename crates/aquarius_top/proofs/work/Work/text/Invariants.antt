use Rattle.std.proofs.Common.{◌<◌}
use Rattle.aquarius_top.proofs.work.Work.text.Given as goal

abbrev pub invariant-loop-number : goal.invariant-loop-number
invariant-loop-number l = l.state < 4294967296
