use Rattle.std.proofs.Common.{◌≡◌, map, take}
use Rattle.aq_term.specs.PlainOf.{plain}
use Rattle.term_meaning.specs.Plain.{nodes, plains, variables_of_all}
use Rattle.source_program.specs.Modes.{counted}
use Rattle.source_program.proofs.query_entry.VariableCounts.+add.Given as goal

abbrev pub decreases-add : goal.decreases-add
decreases-add l = nodes (plain l.term.now)

abbrev pub invariant-loop-argument : goal.invariant-loop-argument
invariant-loop-argument l =
    l.self.counts.items ≡ counted (variables_of_all (plains (map plain (take l.argument-index l.argument-items)))) l.fn.self.counts.items
