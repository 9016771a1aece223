use Rattle.std.proofs.Common.{◌≡◌, drop}
use Rattle.bam_code.specs.declared.known.Known.TheVariants as known
use Rattle.bam_types.specs.LineRules.{said_from}
use Rattle.bam_types.proofs.result_rule.said.Given as goal

abbrev pub invariant-loop-number : goal.invariant-loop-number
invariant-loop-number l =
    said_from l.state l.number (drop l.number l.results) l.identity l.known ≡ said_from l.state 0 l.results l.identity known.Any
