use Rattle.std.proofs.Common.{sym, ap, ◌∙◌, arith}
use Rattle.unify_special.specs.Steps.{step_of}
use Rattle.goal_code.proofs.MoreSteps.{steps_of_set}
use Rattle.goal_code.proofs.renumber.renumbered.Goals as goal

pub loop-line-preserved : goal.loop-line-preserved
loop-line-preserved c =
    steps_of_set c.loop-line.line-items c.loop-line.line-index c.line-item.result c.renumber.new.line (omega arith) c.line-item.is (c.renumber.ensures ∙ ap step_of (sym c.line-item.is))
    ∙ c.loop-line.invariant
