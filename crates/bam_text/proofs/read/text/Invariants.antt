use Rattle.std.proofs.Common.{◌<◌, ◌≤◌, length}
use Rattle.bam_text.specs.TextLeft.{line_bound}
use Rattle.bam_text.proofs.read.text.Given as goal

abbrev pub invariant-loop-reader : goal.invariant-loop-reader
invariant-loop-reader l = record {
  bound : line_bound l.lines ≤ line_bound l.fn.lines;
  later : l.fn.lines.number < l.lines.number;
}

abbrev pub decreases-loop-reader : goal.decreases-loop-reader
decreases-loop-reader l = length l.lines.rest
