use Rattle.std.proofs.Common.{◌≤◌}
use Rattle.answer_io.proofs.rows.Rows.number.Given as goal

abbrev pub invariant-loop-number : goal.invariant-loop-number
invariant-loop-number l = l.left ≤ l.fn.left
