use Rattle.std.proofs.Common.{◌≡◌, ◌++◌, drop}
use Rattle.bam_text.specs.CodeText.{lines_text}
use Rattle.bam_text.proofs.print.lines.Given as goal

abbrev pub invariant-loop-line : goal.invariant-loop-line
invariant-loop-line l =
    l.output ++ lines_text l.atoms (drop l.line-index l.lines) ≡ l.fn.output ++ lines_text l.atoms l.lines
