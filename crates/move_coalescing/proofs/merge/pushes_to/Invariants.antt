use Rattle.move_coalescing.proofs.merge.pushes_to.Given as goal

abbrev pub decreases-loop-at : goal.decreases-loop-at
decreases-loop-at l = l.at
