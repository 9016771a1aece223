use Rattle.std.proofs.Common.{◌≡◌}
use Rattle.unify_special.specs.Steps.{moves_of, steps_of}
use Rattle.goal_code.proofs.writer.Writer.unbox.Given as goal

abbrev pub invariant-loop-variable : goal.invariant-loop-variable
invariant-loop-variable l = record {
  steps : steps_of l.self.draft.lines ≡ steps_of l.fn.self.draft.lines;
  moves : moves_of l.self.draft.lines ≡ moves_of l.fn.self.draft.lines;
}
