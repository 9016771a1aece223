use Rattle.std.proofs.Common.{◌≡◌, drop}
use Rattle.bam_types.specs.HoleRule.{is_passed_from}
use Rattle.bam_types.proofs.hole_rule.is_passed_from.Given as goal

abbrev pub invariant-loop-number : goal.invariant-loop-number
invariant-loop-number l =
    is_passed_from l.state l.number (drop l.number l.args) l.identity ≡ is_passed_from l.state l.start (drop l.start l.args) l.identity
