use Rattle.std.proofs.Common.{◌≤◌}
use Rattle.answer_io.proofs.output.Output.quoted.Given as goal

abbrev pub invariant-loop-byte : goal.invariant-loop-byte
invariant-loop-byte g l = g.K.Sink.faults l.fn.sink ≤ g.K.Sink.faults l.sink
