use Rattle.std.proofs.Common.{◌≡◌}
use Rattle.unify_special.specs.Steps.{steps_of}
use Rattle.goal_code.proofs.writer.Writer.fill_results.Given as goal

abbrev pub invariant-loop-place : goal.invariant-loop-place
invariant-loop-place l = steps_of l.self.draft.lines ≡ steps_of l.fn.self.draft.lines
