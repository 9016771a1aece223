use Rattle.std.proofs.Common.{◌+◌, ◌*◌, max}
use Rattle.source_program.specs.declared.goal.Goal.{size-Goal}
use Rattle.source_program.proofs.outline_builder.OutlineBuilder.+outline.Given as goal

abbrev pub decreases-goal : goal.decreases-goal
decreases-goal l = 4 * size-Goal l.goal.now

abbrev pub decreases-alternatives : goal.decreases-alternatives
decreases-alternatives l = 4 * max (size-Goal l.first.now) (size-Goal l.others.now) + 3

abbrev pub decreases-alternative : goal.decreases-alternative
decreases-alternative l = 4 * size-Goal l.goal.now + 2

abbrev pub decreases-if_then : goal.decreases-if_then
decreases-if_then l = 4 * max (size-Goal l.condition.now) (size-Goal l.then.now) + 3

abbrev pub decreases-negation : goal.decreases-negation
decreases-negation l = 4 * size-Goal l.negated.now + 2

abbrev pub decreases-local : goal.decreases-local
decreases-local l = 4 * size-Goal l.goal.now + 1

abbrev pub decreases-catch : goal.decreases-catch
decreases-catch l = 4 * max (size-Goal l.guarded.now) (size-Goal l.recovery.now) + 3

abbrev pub decreases-guarded : goal.decreases-guarded
decreases-guarded l = 4 * size-Goal l.goal.now + 1

abbrev pub decreases-handler : goal.decreases-handler
decreases-handler l = 4 * size-Goal l.recovery.now + 2
