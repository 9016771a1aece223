use Rattle.move_coalescing.proofs.merge.setting.Given as goal

abbrev pub decreases-loop-at : goal.decreases-loop-at
decreases-loop-at l = l.at
