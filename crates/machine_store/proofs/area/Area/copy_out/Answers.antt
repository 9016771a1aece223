use Rattle.std.proofs.Common.{arith}
use Rattle.machine_store.proofs.ListLemmas.{written_next}
use Rattle.machine_store.proofs.area.Area.copy_out.Goals as goal

pub loop-i-preserved : goal.loop-i-preserved
loop-i-preserved c =
    written_next c.args.from c.loop-i.i c.args.self.now.words c.args.out.now c.loop-i.out c.get.result c.get.ensures (omega (arith, c.requires.room, c.loop-i-test.true)) c.loop-i.invariant
