use Rattle.std.proofs.Common.{◌+◌, ◌*◌}
use Rattle.aq_term.specs.PlainOf.{plain}
use Rattle.term_meaning.specs.Plain.{nodes}
use Rattle.dcg_rules.proofs.body.BodyGoals.+goal.Given as goal

abbrev pub decreases-goal : goal.decreases-goal
decreases-goal l = 2 * nodes (plain l.part.now)

abbrev pub decreases-sequence : goal.decreases-sequence
decreases-sequence l = 2 * (nodes (plain l.left.now) + nodes (plain l.right.now)) + 1

abbrev pub decreases-choice : goal.decreases-choice
decreases-choice l = 2 * (nodes (plain l.left.now) + nodes (plain l.right.now)) + 1

abbrev pub decreases-negation : goal.decreases-negation
decreases-negation l = 2 * nodes (plain l.inner.now) + 1
