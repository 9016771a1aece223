use Rattle.std.proofs.Common.{◌≡◌, ◌++◌, drop}
use Rattle.facts_text.specs.FactsText.{words_of}
use Rattle.facts_text.proofs.lines.fields.Given as goal

abbrev pub invariant-loop-fact : goal.invariant-loop-fact
invariant-loop-fact l = l.output ++ words_of (drop l.fact-index l.facts) ≡ l.fn.output ++ words_of l.facts
