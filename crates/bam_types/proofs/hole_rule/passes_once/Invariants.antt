use Rattle.std.proofs.Common.{◌≡◌, drop}
use Rattle.bam_types.specs.HoleRule.{passes_once_from}
use Rattle.bam_types.proofs.hole_rule.passes_once.Given as goal

abbrev pub invariant-loop-number : goal.invariant-loop-number
invariant-loop-number l = passes_once_from l.state l.number (drop l.number l.args) ≡ passes_once_from l.state 0 l.args
