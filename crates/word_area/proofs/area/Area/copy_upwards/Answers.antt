use Rattle.std.proofs.Common.{arith}
use Rattle.word_area.proofs.CopyLemmas.{upwards_set, upwards_next}
use Rattle.word_area.proofs.area.Area.copy_upwards.Goals as goal

pub get-word-requires : goal.get-word-requires
get-word-requires c =
    upwards_set c.args.from c.args.to c.loop-i.i c.args.self.now c.loop-i.self c.loop-i.invariant c.requires.below (omega (arith, c.requires.source, c.loop-i-test.true)) (c.requires.set c.loop-i.i c.loop-i-test.true)

pub loop-i-preserved : goal.loop-i-preserved
loop-i-preserved c =
    upwards_next c.args.from c.args.to c.loop-i.i c.args.self.now c.loop-i.self c.set.new.self c.get-word.result c.loop-i.invariant c.set.ensures c.get-word.ensures c.requires.below (omega (arith, c.requires.source, c.loop-i-test.true))
