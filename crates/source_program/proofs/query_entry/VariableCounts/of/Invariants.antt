use Rattle.std.proofs.Common.{◌≡◌, map, take, replicate}
use Rattle.aq_term.specs.PlainOf.{plain}
use Rattle.term_meaning.specs.Plain.{plains, variables_of_all}
use Rattle.source_program.specs.Modes.{counted}
use Rattle.source_program.proofs.query_entry.VariableCounts.of.Given as goal

abbrev pub invariant-loop-term : goal.invariant-loop-term
invariant-loop-term l =
    l.counts.counts.items ≡ counted (variables_of_all (plains (map plain (take l.term-index l.terms)))) (replicate l.variables 0)
