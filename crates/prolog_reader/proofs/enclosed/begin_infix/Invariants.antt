use Rattle.std.proofs.Common.{◌≡◌, vec_len}
use Rattle.prolog_reader.specs.Frames.{frames_of}
use Rattle.prolog_reader.specs.Machine.{begun}
use Rattle.prolog_reader.proofs.enclosed.begin_infix.Given as goal

abbrev pub invariant-loop-alloc : goal.invariant-loop-alloc
invariant-loop-alloc l = begun l.name l.limits l.left (frames_of l.stack) l.built ≡ begun l.name l.limits l.initial.left (frames_of l.fn.stack) l.initial.built

abbrev pub decreases-loop-alloc : goal.decreases-loop-alloc
decreases-loop-alloc l = vec_len l.stack.frames
