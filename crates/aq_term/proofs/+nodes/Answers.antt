use Rattle.std.proofs.Common.{arith}
use Rattle.aq_term.proofs.TermFolds.{nodes-take-suc}
use Rattle.aq_term.proofs.+nodes.Goals as goal

pub args::Args::nodes-loop-term-preserved : goal.args::Args::nodes-loop-term-preserved
args::Args::nodes-loop-term-preserved t c =
    omega (arith, nodes-take-suc c.as_slice-term-items.result.now c.loop-term.term-index c.term-item.result c.loop-term-test.true c.term-item.is, c.nodes.ensures, c.saturating_add-total.ensures, c.loop-term.invariant)
