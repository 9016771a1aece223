use Rattle.std.proofs.Common.{◌≡◌, drop}
use Rattle.bam_text.specs.CodeText.{some_catches}
use Rattle.bam_text.proofs.print.some_catches.Given as goal

abbrev pub invariant-loop-line : goal.invariant-loop-line
invariant-loop-line l = some_catches (drop l.line-index l.lines) ≡ some_catches l.lines
