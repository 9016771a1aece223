use Rattle.std.proofs.Common.{ℕ, ◌≤◌}
use Rattle.answer_io.proofs.write_answer.write_lines.Given as goal

abbrev pub invariant-loop-name : goal.invariant-loop-name
invariant-loop-name g l = record {
  faults : g.K.Sink.faults l.fn.sink ≤ g.K.Sink.faults l.sink;
  left : l.left ≤ l.fn.left;
}
