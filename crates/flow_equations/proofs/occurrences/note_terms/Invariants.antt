use Rattle.std.proofs.Common.{◌≡◌, ◌++◌, map, take}
use Rattle.term_meaning.specs.Plain.{plains, variables_of_all}
use Rattle.aq_term.specs.PlainOf.{plain}
use Rattle.flow_equations.proofs.occurrences.note_terms.Given as goal

abbrev pub invariant-loop-term : goal.invariant-loop-term
invariant-loop-term l =
    l.found.items ≡ l.initial.found.items ++ variables_of_all (plains (map plain (take l.term-index l.terms)))
