use Rattle.std.proofs.Common.{◌∙◌}
use Rattle.source_program.proofs.CountLemmas.{counted-take-suc}
use Rattle.source_program.proofs.query_entry.VariableCounts.+add.Goals as goal

pub loop-argument-preserved : goal.loop-argument-preserved
loop-argument-preserved t c =
    c.add.ensures
    ∙ counted-take-suc _ _ _ _ _ c.loop-argument-test.true c.argument-item.is c.loop-argument.invariant
