use Rattle.std.proofs.Common.{◌≤◌, arith}
use Rattle.term_meaning.specs.Plain.{nodes, nodes_of_all, plains}
use Rattle.aq_term.specs.PlainOf.{plain}
use Rattle.aq_term.proofs.Callers.{nodes_le-all}
use Rattle.goal_code.proofs.writer.Writer.+evaluate.Goals as goal

pub evaluate_all-evaluate-requires : goal.evaluate_all-evaluate-requires
evaluate_all-evaluate-requires t c =
    let within : nodes (plain c.argument-item.result) ≤ nodes_of_all (plains c.args.arguments.now) =
    rw (← c.as_slice-argument-items.ensures) (nodes_le-all c.as_slice-argument-items.result.now c.loop-argument.argument-index c.argument-item.result c.loop-argument-test.true c.argument-item.is) in
    (omega (arith, within, c.decreases), tt)
