use Rattle.move_coalescing.specs.Coalesced.{OnlyMovesGo}
use Rattle.move_coalescing.proofs.reloads.without_reloads.Given as goal

abbrev pub invariant-loop-line : goal.invariant-loop-line
invariant-loop-line l = OnlyMovesGo l.yielded l.kept.items
