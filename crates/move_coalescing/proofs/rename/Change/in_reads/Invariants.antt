use Rattle.std.proofs.Common.{◌≡◌, map}
use Rattle.move_coalescing.specs.Outlines.{outline}
use Rattle.move_coalescing.proofs.rename.Change.in_reads.Given as goal

abbrev pub invariant-loop-at : goal.invariant-loop-at
invariant-loop-at l = map outline l.lines.items ≡ map outline l.initial.lines.items
