use Rattle.std.proofs.Common.{◌≡◌, map, take}
use Rattle.term_meaning.specs.Plain.{nodes_of_all, plains}
use Rattle.aq_term.specs.PlainOf.{plain, capped}
use Rattle.aq_term.proofs.+nodes.Given as goal

abbrev pub invariant-args::Args::nodes-loop-term : goal.invariant-args::Args::nodes-loop-term
invariant-args::Args::nodes-loop-term l = l.total ≡ capped (nodes_of_all (plains (map plain (take l.term-index l.term-items))))
