-- The priorities of terms in their frames.
use Rattle.std.specs.Prelude.{ℕ}
use Rattle.prolog_reader.specs.declared.frame.Frame.{Frame}
use Rattle.prolog_reader.specs.declared.frame.Frame.TheVariants.{Infix, Prefix, Brackets, Curly, Arguments, Elements, Tail}

-- the greatest priority of the term that is read in a frame
abbrev pub frame_most : Frame → ℕ
frame_most (Infix name priority most left) = most
frame_most (Prefix name priority most) = most
frame_most Brackets = 1200
frame_most Curly = 1200
frame_most (Arguments name row) = 999
frame_most (Elements row) = 999
frame_most (Tail row) = 999
