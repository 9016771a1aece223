use Rattle.std.proofs.Common.{◌≡◌}
use Rattle.goal_code.specs.Passed.{hole_lines}
use Rattle.unify_special.specs.Steps.{steps_of}
use Rattle.goal_code.proofs.writer.Writer.move_away.Given as goal

abbrev pub invariant-loop-number : goal.invariant-loop-number
invariant-loop-number l = record {
  steps : steps_of l.self.draft.lines ≡ steps_of l.fn.self.draft.lines;
  holes : hole_lines l.self.draft.lines ≡ hole_lines l.fn.self.draft.lines;
}
