use Rattle.std.proofs.Common.{◌≡◌}
use Rattle.goal_code.proofs.writer.Writer.lose_registers.Given as goal

abbrev pub invariant-loop-variable : goal.invariant-loop-variable
invariant-loop-variable l = l.self.draft.lines ≡ l.fn.self.draft.lines
