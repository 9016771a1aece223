use Rattle.std.proofs.Common.{◌≡◌, map, take, true}
use Rattle.term_meaning.specs.Plain.{are_ground, plains}
use Rattle.aq_term.specs.PlainOf.{plain}
use Rattle.aq_term.proofs.+is_ground.Given as goal

abbrev pub invariant-args::Args::are_ground-loop-term : goal.invariant-args::Args::are_ground-loop-term
invariant-args::Args::are_ground-loop-term l = are_ground (plains (map plain (take l.term-index l.term-items))) ≡ true
