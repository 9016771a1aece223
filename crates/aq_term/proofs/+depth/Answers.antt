use Rattle.std.proofs.Common.{arith}
use Rattle.aq_term.proofs.TermFolds.{depth-take-suc}
use Rattle.aq_term.proofs.+depth.Goals as goal

pub args::Args::depth-loop-term-preserved : goal.args::Args::depth-loop-term-preserved
args::Args::depth-loop-term-preserved t c =
    omega (arith, depth-take-suc c.as_slice-term-items.result.now c.loop-term.term-index c.term-item.result c.loop-term-test.true c.term-item.is, c.depth.ensures, c.max-deepest.ensures, c.loop-term.invariant)
