use Rattle.std.proofs.Common.{◌≡◌, ◌≤◌, ◌+◌}
use Rattle.std.specs.Prelude.{IsTrue}
use Rattle.std.specs.List.{list_all}
use Rattle.goal_code.specs.GoalLines.{is_plain_clause}
use Rattle.goal_code.specs.StepCounts.{OnlyReturns, choices_of, ends_of}
use Rattle.goal_code.proofs.writer.Writer.labelled.Given as goal

abbrev pub invariant-loop-place : goal.invariant-loop-place
invariant-loop-place l = record {
  ended : ends_of l.fn.self.draft.lines + l.place ≤ ends_of l.self.draft.lines;
  plain : IsTrue (list_all is_plain_clause l.clauses) → OnlyReturns l.place l.fn.self.draft.lines l.self.draft.lines;
  choices : choices_of l.self.draft.lines ≡ choices_of l.fn.self.draft.lines;
}
