use Rattle.std.proofs.Common.{None, sym, ap, ◌∙◌, arith}
use Rattle.determinism.specs.Distinct.{are_distinct}
use Rattle.determinism.proofs.Repeats.{none_distinct}
use Rattle.goal_code.proofs.writer.Writer.selection.Goals as goal

pub returns-in-None-clause-found : goal.returns-in-None-clause-found
returns-in-None-clause-found c = λ bound distinct.
    sym (none_distinct c.as_slice-key-items.result.now c.loop-key.key-index None (omega arith) c.in-None.is)
    ∙ ap are_distinct c.as_slice-key-items.ensures ∙ distinct
