use Rattle.std.proofs.Common.{◌≤◌, arith}
use Rattle.term_meaning.specs.Plain.{nodes, nodes_of_all, plains}
use Rattle.aq_term.specs.PlainOf.{plain}
use Rattle.aq_term.proofs.Callers.{nodes_le-all}
use Rattle.flow_equations.proofs.TermVariables.{noted-take-suc}
use Rattle.flow_equations.proofs.occurrences.+note.Goals as goal

pub note_arguments-note-requires : goal.note_arguments-note-requires
note_arguments-note-requires t c =
    let within : nodes (plain c.argument-item.result) ≤ nodes_of_all (plains c.args.arguments.now) =
    rw (← c.as_slice-argument-items.ensures) (nodes_le-all c.as_slice-argument-items.result.now c.loop-argument.argument-index c.argument-item.result c.loop-argument-test.true c.argument-item.is) in
    (omega (arith, within, c.decreases), tt)

pub note_arguments-loop-argument-preserved : goal.note_arguments-loop-argument-preserved
note_arguments-loop-argument-preserved t c =
    rw (c.in_ok-note.ensures, c.loop-argument.invariant) (noted-take-suc c.args.found.now.items c.as_slice-argument-items.result.now c.loop-argument.argument-index c.argument-item.result c.loop-argument-test.true c.argument-item.is)
