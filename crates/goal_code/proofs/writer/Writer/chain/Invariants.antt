use Rattle.std.proofs.Common.{◌≡◌}
use Rattle.goal_code.specs.Alone.{IsAlone}
use Rattle.goal_code.specs.StepCounts.{choices_of, ends_of, returns_of}
use Rattle.goal_code.proofs.writer.Writer.chain.Given as goal

abbrev pub invariant-loop-place : goal.invariant-loop-place
invariant-loop-place l = record {
  ends : ends_of l.self.draft.lines ≡ ends_of l.fn.self.draft.lines;
  single : IsAlone l.groups → choices_of l.self.draft.lines ≡ choices_of l.fn.self.draft.lines;
  returns : returns_of l.self.draft.lines ≡ returns_of l.fn.self.draft.lines;
}
