use Rattle.std.proofs.Common.{◌-◌, vec_len}
use Rattle.source_program.proofs.outline_walk.OutlineWalk.take_goals.Given as goal

abbrev pub decreases-loop-next : goal.decreases-loop-next
decreases-loop-next l = l.end - l.next

abbrev pub decreases-loop-predicate : goal.decreases-loop-predicate
decreases-loop-predicate l = vec_len l.called
