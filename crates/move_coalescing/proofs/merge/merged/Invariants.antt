use Rattle.std.proofs.Common.{◌++◌, length, reverse}
use Rattle.move_coalescing.specs.Coalesced.{OnlyMovesGo}
use Rattle.move_coalescing.proofs.merge.merged.Given as goal

abbrev pub invariant-loop-line : goal.invariant-loop-line
invariant-loop-line l = OnlyMovesGo l.fn.lines.items (l.lines.items ++ reverse l.kept.items)

abbrev pub decreases-loop-line : goal.decreases-loop-line
decreases-loop-line l = length l.lines.items
