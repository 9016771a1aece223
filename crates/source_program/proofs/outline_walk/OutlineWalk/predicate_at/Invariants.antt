use Rattle.source_program.proofs.outline_walk.OutlineWalk.predicate_at.Given as goal

abbrev pub decreases-loop-predicate : goal.decreases-loop-predicate
decreases-loop-predicate l = goal.left-loop-predicate l
