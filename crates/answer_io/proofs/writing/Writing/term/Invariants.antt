use Rattle.std.proofs.Common.{ℕ, ◌≤◌}
use Rattle.answer_io.proofs.writing.Writing.term.Given as goal

abbrev pub invariant-loop-due : goal.invariant-loop-due
invariant-loop-due g l = record {
  faults : g.K.Sink.faults l.fn.sink ≤ g.K.Sink.faults l.sink;
  left : l.left ≤ l.fn.left;
}

abbrev pub decreases-loop-due : goal.decreases-loop-due
decreases-loop-due g l = l.left
