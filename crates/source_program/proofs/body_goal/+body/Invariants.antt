use Rattle.std.proofs.Common.{◌+◌, ◌*◌}
use Rattle.aq_term.specs.PlainOf.{plain}
use Rattle.term_meaning.specs.Plain.{nodes}
use Rattle.source_program.proofs.body_goal.+body.Given as goal

abbrev pub decreases-goal_of : goal.decreases-goal_of
decreases-goal_of l = 2 * nodes (plain l.term.now)

abbrev pub decreases-boxed_goal : goal.decreases-boxed_goal
decreases-boxed_goal l = 2 * nodes (plain l.term.now) + 1
