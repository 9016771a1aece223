use Rattle.std.proofs.Common.{◌-◌, arith}
use Rattle.word_area.proofs.CopyLemmas.{downwards_set, downwards_next}
use Rattle.word_area.proofs.area.Area.copy_downwards.Goals as goal

pub get-word-requires : goal.get-word-requires
get-word-requires c =
    let left = c.loop-left.left in let i = left - 1 in
    downwards_set c.args.from c.args.to i left (c.args.count - left) c.args.self.now c.loop-left.self (omega (arith, c.loop-left-test.true)) c.loop-left.invariant.1 c.requires.above (omega (arith, c.requires.target, c.loop-left.invariant.0)) (c.requires.set i (omega (arith, c.loop-left-test.true, c.loop-left.invariant.0)))

pub loop-left-preserved : goal.loop-left-preserved
loop-left-preserved c =
    let left = c.loop-left.left in let i = left - 1 in
    (omega (arith, c.loop-left.invariant.0), downwards_next c.args.from c.args.to i left (c.args.count - left) (c.args.count - i) c.args.self.now c.loop-left.self c.set.new.self c.get-word.result (omega (arith, c.loop-left-test.true)) (omega (arith, c.loop-left-test.true, c.loop-left.invariant.0)) c.loop-left.invariant.1 c.set.ensures c.get-word.ensures c.requires.above (omega (arith, c.requires.target, c.loop-left.invariant.0)))
