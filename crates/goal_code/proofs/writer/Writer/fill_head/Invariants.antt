use Rattle.std.proofs.Common.{◌≡◌}
use Rattle.unify_special.specs.Steps.{steps_of}
use Rattle.goal_code.proofs.writer.Writer.fill_head.Given as goal

abbrev pub invariant-loop-number : goal.invariant-loop-number
invariant-loop-number l = steps_of l.self.draft.lines ≡ steps_of l.fn.self.draft.lines
