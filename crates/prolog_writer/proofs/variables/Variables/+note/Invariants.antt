use Rattle.std.proofs.Common.{◌≡◌, ◌+◌, ◌*◌, map, take}
use Rattle.term_meaning.specs.Plain.{nodes, nodes_of_all, plains, variables_of_all}
use Rattle.term_text.specs.Written.{noted}
use Rattle.aq_term.specs.PlainOf.{plain}
use Rattle.prolog_writer.proofs.variables.Variables.+note.Given as goal

abbrev pub decreases-note : goal.decreases-note
decreases-note l = 2 * nodes (plain l.term.now)

abbrev pub decreases-note_all : goal.decreases-note_all
decreases-note_all l = 2 * nodes_of_all (plains l.args.now) + 1

abbrev pub invariant-note_all-loop-arg : goal.invariant-note_all-loop-arg
invariant-note_all-loop-arg l = l.self ≡ noted l.initial.self (variables_of_all (plains (map plain (take l.arg-index l.arg-items))))
