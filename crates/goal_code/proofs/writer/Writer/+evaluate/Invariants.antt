use Rattle.std.proofs.Common.{◌≡◌, ◌+◌, ◌*◌}
use Rattle.term_meaning.specs.Plain.{nodes, nodes_of_all, plains}
use Rattle.aq_term.specs.PlainOf.{plain}
use Rattle.unify_special.specs.Steps.{moves_of, steps_of}
use Rattle.goal_code.proofs.writer.Writer.+evaluate.Given as goal

abbrev pub decreases-evaluate : goal.decreases-evaluate
decreases-evaluate l = 2 * nodes (plain l.expression.now)

abbrev pub decreases-evaluate_all : goal.decreases-evaluate_all
decreases-evaluate_all l = 2 * nodes_of_all (plains l.arguments.now) + 1

abbrev pub invariant-evaluate_all-loop-argument : goal.invariant-evaluate_all-loop-argument
invariant-evaluate_all-loop-argument l = record {
  steps : steps_of l.self.draft.lines ≡ steps_of l.initial.self.draft.lines;
  moves : moves_of l.self.draft.lines ≡ moves_of l.initial.self.draft.lines;
}
