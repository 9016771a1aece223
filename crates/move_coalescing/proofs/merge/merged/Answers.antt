use Rattle.std.proofs.Common.{◌≡◌, [], arith}
use Rattle.std.proofs.lemmas.Grind.{common_steps}
use Rattle.move_coalescing.proofs.OutlineLemmas.{only_ended, only_popped, only_start, only_then, popped_smaller}
use Rattle.move_coalescing.proofs.merge.merged.Goals as goal

pub loop-line-init : goal.loop-line-init
loop-line-init c = only_start c.args.lines.items c.in_ok-kept.kept.items c.in_ok-kept.ensures.items

pub loop-line-preserved : goal.loop-line-preserved
loop-line-preserved c =
    only_then (only_popped c.args.lines.items c.loop-line.lines.items c.pop.new.self.items c.loop-line.kept.items c.in-Some.line c.in-Some.ensures.items c.loop-line.invariant)
    c.in_ok-put.ensures.moves

pub returns : goal.returns
returns c =
    let none : c.loop-line.lines.items ≡ [] = grind (arith, common_steps) in
    rw c.reverse.ensures.items (only_ended c.args.lines.items c.loop-line.lines.items c.loop-line.kept.items none c.loop-line.invariant)

pub loop-line-smaller : goal.loop-line-smaller
loop-line-smaller c =
    popped_smaller c.loop-line.lines.items c.pop.new.self.items c.put.new.before.items c.in-Some.line c.in-Some.ensures.items c.in_ok-put.ensures.count
