use Rattle.flow_equations.proofs.TermVariables.{noted-take-suc}
use Rattle.flow_equations.proofs.occurrences.note_terms.Goals as goal

pub loop-term-preserved : goal.loop-term-preserved
loop-term-preserved c =
    rw (c.in_ok-note.ensures, c.loop-term.invariant) (noted-take-suc c.args.found.now.items c.args.terms.now c.loop-term.term-index c.term-item.result c.loop-term-test.true c.term-item.is)
