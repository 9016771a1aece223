use Rattle.std.proofs.Common.{◌+◌, ◌*◌}
use Rattle.term_meaning.specs.Plain.{nodes, nodes_of_all, plains}
use Rattle.aq_term.specs.PlainOf.{plain}
use Rattle.unify_special.proofs.pattern.+sketch.Given as goal

abbrev pub decreases-sketch_term : goal.decreases-sketch_term
decreases-sketch_term l = 2 * nodes (plain l.term.now)

abbrev pub decreases-sketch_arguments : goal.decreases-sketch_arguments
decreases-sketch_arguments l = 2 * nodes_of_all (plains l.args.now) + 1
