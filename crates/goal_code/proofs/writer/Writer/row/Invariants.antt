use Rattle.std.proofs.Common.{◌≡◌, ◌≤◌, length}
use Rattle.goal_code.specs.StepCounts.{choices_of, ends_of, returns_of}
use Rattle.goal_code.proofs.writer.Writer.row.Given as goal

abbrev pub invariant-loop-place : goal.invariant-loop-place
invariant-loop-place l = record {
  ends : ends_of l.self.draft.lines ≡ ends_of l.fn.self.draft.lines;
  returns : returns_of l.self.draft.lines ≡ returns_of l.fn.self.draft.lines;
  single : length l.labels ≤ 1 → choices_of l.self.draft.lines ≡ choices_of l.fn.self.draft.lines;
}
