use Rattle.std.proofs.Common.{[], ◌∷◌}
use Rattle.move_coalescing.proofs.OutlineLemmas.{only_behind, only_then}
use Rattle.move_coalescing.proofs.reloads.without_reloads.Goals as goal

pub loop-line-preserved : goal.loop-line-preserved
loop-line-preserved c =
    only_then (only_behind c.loop-line.yielded c.loop-line.kept.items (c.in-Some.line ∷ []) c.loop-line.invariant) c.in_ok-put.ensures
