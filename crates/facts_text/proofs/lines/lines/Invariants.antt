use Rattle.std.proofs.Common.{◌≡◌, ◌++◌, drop}
use Rattle.facts_text.specs.FactsText.{lines_text}
use Rattle.facts_text.proofs.lines.lines.Given as goal

abbrev pub invariant-loop-facts : goal.invariant-loop-facts
invariant-loop-facts l = l.output ++ lines_text l.atoms (drop l.facts-index l.predicates) ≡ l.fn.output ++ lines_text l.atoms l.predicates
