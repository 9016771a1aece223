-- The frames of a stack.
use Rattle.std.specs.Prelude.{List, reverse}
use Rattle.prolog_reader.specs.declared.frame.Frame.{Frame}
use Rattle.prolog_reader.specs.declared.stack.Stack.{Stack}

-- the frames, the newest first
abbrev pub frames_of : Stack → List Frame
frames_of s = reverse s.frames.items
