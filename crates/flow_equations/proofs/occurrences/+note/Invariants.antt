use Rattle.std.proofs.Common.{◌≡◌, ◌+◌, ◌*◌, ◌++◌, map, take}
use Rattle.term_meaning.specs.Plain.{nodes, nodes_of_all, plains, variables_of_all}
use Rattle.aq_term.specs.PlainOf.{plain}
use Rattle.flow_equations.proofs.occurrences.+note.Given as goal

abbrev pub decreases-note : goal.decreases-note
decreases-note l = 2 * nodes (plain l.term.now)

abbrev pub decreases-note_arguments : goal.decreases-note_arguments
decreases-note_arguments l = 2 * nodes_of_all (plains l.arguments.now) + 1

abbrev pub invariant-note_arguments-loop-argument : goal.invariant-note_arguments-loop-argument
invariant-note_arguments-loop-argument l =
    l.found.items ≡ l.initial.found.items ++ variables_of_all (plains (map plain (take l.argument-index l.argument-items)))
