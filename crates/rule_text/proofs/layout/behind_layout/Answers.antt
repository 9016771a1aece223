use Rattle.std.proofs.Common.{◌+◌, drop, sym, ◌∙◌, ap}
use Rattle.std.proofs.lemmas.List.{take_rest}
use Rattle.source_meaning.specs.RuleFront.{behind_gap}
use Rattle.rule_text.proofs.Bytes.{drop_byte}
use Rattle.rule_text.proofs.layout.behind_layout.Goals as goal

pub returns-in-Behind : goal.returns-in-Behind
returns-in-Behind c =
    let byte = drop_byte c.args.text.now c.loop-at.at c.loop-at-test.true in
    let gives = c.in-Behind.ensures (drop (c.loop-at.at + 1) c.args.text.now) in
    let so_far = c.loop-at.invariant in
    let rest = take_rest c.args.text.now c.loop-at.at in
    rw (rest, byte) (sym gives ∙ ap (behind_gap c.loop-at.in_comment) (sym byte) ∙ so_far)

pub returns-in-Fault : goal.returns-in-Fault
returns-in-Fault c =
    let byte = drop_byte c.args.text.now c.loop-at.at c.loop-at-test.true in
    let gives = c.in-Fault.ensures (drop (c.loop-at.at + 1) c.args.text.now) in
    let so_far = c.loop-at.invariant in
    sym gives ∙ ap (behind_gap c.loop-at.in_comment) (sym byte) ∙ so_far
