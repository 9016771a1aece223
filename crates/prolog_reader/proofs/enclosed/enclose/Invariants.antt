use Rattle.std.proofs.Common.{◌≡◌, vec_len}
use Rattle.prolog_reader.specs.Frames.{frames_of}
use Rattle.prolog_reader.specs.Machine.{enclose_of}
use Rattle.prolog_reader.proofs.enclosed.enclose.Given as goal

abbrev pub invariant-loop-frame : goal.invariant-loop-frame
invariant-loop-frame l = enclose_of (frames_of l.stack) l.built ≡ enclose_of (frames_of l.fn.stack) l.initial.built

abbrev pub decreases-loop-frame : goal.decreases-loop-frame
decreases-loop-frame l = vec_len l.stack.frames
