use Rattle.std.proofs.Common.{◌+◌, ◌*◌}
use Rattle.term_meaning.specs.Plain.{nodes, nodes_of_all, plains}
use Rattle.aq_term.specs.PlainOf.{plain}
use Rattle.goal_code.proofs.twins.Twins.+with_twins.Given as goal

abbrev pub decreases-arguments : goal.decreases-arguments
decreases-arguments l = 2 * nodes_of_all (plains l.arguments.now) + 1

abbrev pub decreases-term : goal.decreases-term
decreases-term l = 2 * nodes (plain l.term.now)
