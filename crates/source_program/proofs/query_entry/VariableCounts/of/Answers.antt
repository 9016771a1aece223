use Rattle.std.proofs.Common.{◌∙◌}
use Rattle.source_program.proofs.CountLemmas.{counted-take-suc}
use Rattle.source_program.proofs.query_entry.VariableCounts.of.Goals as goal

pub loop-term-preserved : goal.loop-term-preserved
loop-term-preserved c =
    c.add.ensures
    ∙ counted-take-suc _ _ _ _ _ c.loop-term-test.true c.term-item.is c.loop-term.invariant
