use Rattle.std.proofs.Common.{ℕ, ◌≤◌}
use Rattle.answer_io.proofs.writing.Writing.resume.Given as goal

abbrev pub invariant-loop-pending : goal.invariant-loop-pending
invariant-loop-pending g l = g.K.Sink.faults l.fn.sink ≤ g.K.Sink.faults l.sink

abbrev pub decreases-loop-pending : goal.decreases-loop-pending
decreases-loop-pending g l = l.self.rows.pending
