use Rattle.std.proofs.Common.{◌≡◌, map, take}
use Rattle.term_meaning.specs.Plain.{depth_of_all, plains}
use Rattle.aq_term.specs.PlainOf.{plain, capped}
use Rattle.aq_term.proofs.+depth.Given as goal

abbrev pub invariant-args::Args::depth-loop-term : goal.invariant-args::Args::depth-loop-term
invariant-args::Args::depth-loop-term l = l.deepest ≡ capped (depth_of_all (plains (map plain (take l.term-index l.term-items))))
