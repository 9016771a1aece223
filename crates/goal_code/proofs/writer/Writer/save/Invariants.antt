use Rattle.std.proofs.Common.{◌≡◌}
use Rattle.unify_special.specs.Steps.{steps_of}
use Rattle.goal_code.proofs.writer.Writer.save.Given as goal

abbrev pub invariant-loop-variable : goal.invariant-loop-variable
invariant-loop-variable l = steps_of l.self.draft.lines ≡ steps_of l.fn.self.draft.lines
