use Rattle.std.proofs.Common.{◌≡◌, ◌≤◌, ◌+◌, take}
use Rattle.std.specs.Prelude.{IsTrue}
use Rattle.std.specs.List.{list_all}
use Rattle.goal_code.specs.GoalLines.{is_plain, most_moves_of}
use Rattle.goal_code.specs.StepCounts.{choices_of, ends_of}
use Rattle.unify_special.specs.Steps.{moves_of, steps_of}
use Rattle.goal_code.proofs.writer.Writer.goals.Given as goal

abbrev pub invariant-loop-number : goal.invariant-loop-number
invariant-loop-number l = record {
  choices : choices_of l.self.draft.lines ≡ choices_of l.fn.self.draft.lines;
  ends : ends_of l.fn.self.draft.lines ≤ ends_of l.self.draft.lines;
  plain : IsTrue (list_all is_plain l.clause.goals) → steps_of l.self.draft.lines ≡ steps_of l.fn.self.draft.lines;
  moves : IsTrue (list_all is_plain l.clause.goals) → moves_of l.self.draft.lines ≤ moves_of l.fn.self.draft.lines + most_moves_of (take l.number l.clause.goals);
}
