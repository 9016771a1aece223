use Rattle.std.proofs.Common.{◌≤◌, arith}
use Rattle.term_meaning.specs.Plain.{nodes, nodes_of_all, plains}
use Rattle.aq_term.specs.PlainOf.{plain}
use Rattle.aq_term.proofs.Callers.{nodes_le-all}
use Rattle.unify_special.proofs.pattern.+sketch.Goals as goal

pub sketch_arguments-sketch_term-requires : goal.sketch_arguments-sketch_term-requires
sketch_arguments-sketch_term-requires t c =
    let within : nodes (plain c.arg-item.result) ≤ nodes_of_all (plains c.args.args.now) =
    rw (← c.as_slice-arg-items.ensures) (nodes_le-all c.as_slice-arg-items.result.now c.loop-arg.arg-index c.arg-item.result c.loop-arg-test.true c.arg-item.is) in
    (omega (arith, within, c.decreases), tt)
