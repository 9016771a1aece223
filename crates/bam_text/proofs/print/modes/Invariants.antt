use Rattle.std.proofs.Common.{◌≡◌, ◌++◌, drop}
use Rattle.bam_text.specs.CodeText.{modes_text}
use Rattle.bam_text.proofs.print.modes.Given as goal

abbrev pub invariant-loop-mode : goal.invariant-loop-mode
invariant-loop-mode l = l.output ++ modes_text (drop l.mode-index l.modes) ≡ l.fn.output ++ modes_text l.modes
