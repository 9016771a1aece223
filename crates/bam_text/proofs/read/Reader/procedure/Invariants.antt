use Rattle.std.proofs.Common.{◌≤◌, length}
use Rattle.bam_text.specs.TextLeft.{line_bound}
use Rattle.bam_text.proofs.read.Reader.procedure.Given as goal

abbrev pub invariant-loop-body : goal.invariant-loop-body
invariant-loop-body l = record {
  bound : line_bound l.lines ≤ line_bound l.fn.lines;
  later : l.fn.lines.number ≤ l.lines.number;
  shorter : length l.lines.rest ≤ length l.fn.lines.rest;
  counted : l.scope.labels ≤ length l.body.items;
}

abbrev pub decreases-loop-body : goal.decreases-loop-body
decreases-loop-body l = length l.lines.rest
