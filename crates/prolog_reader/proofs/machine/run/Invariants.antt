use Rattle.std.proofs.Common.{◌≡◌, drop}
use Rattle.prolog_reader.specs.Frames.{frames_of}
use Rattle.prolog_reader.specs.Machine.{run}
use Rattle.prolog_reader.specs.declared.machine.State.TheVariants.{Due}
use Rattle.prolog_reader.proofs.machine.run.Given as goal

abbrev pub invariant-loop-i : goal.invariant-loop-i
invariant-loop-i l = run (drop l.i l.words) l.state (frames_of l.stack) ≡ run l.words Due (frames_of l.fn.stack)
