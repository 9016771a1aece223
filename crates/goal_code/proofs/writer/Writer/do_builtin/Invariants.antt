use Rattle.std.proofs.Common.{◌≡◌, ◌≤◌, ◌+◌, ◌*◌}
use Rattle.unify_special.specs.Steps.{moves_of, steps_of}
use Rattle.goal_code.proofs.writer.Writer.do_builtin.Given as goal

abbrev pub invariant-loop-place : goal.invariant-loop-place
invariant-loop-place l = record {
  steps : steps_of l.self.draft.lines ≡ steps_of l.fn.self.draft.lines;
  moves : moves_of l.self.draft.lines ≤ moves_of l.fn.self.draft.lines + 3 * l.place;
}
