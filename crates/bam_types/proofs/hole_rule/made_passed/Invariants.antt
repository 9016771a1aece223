use Rattle.std.proofs.Common.{◌≡◌, ◌+◌, ◌≤◌, drop}
use Rattle.bam_types.specs.HoleRule.{made_passed_from}
use Rattle.bam_types.proofs.hole_rule.made_passed.Given as goal

abbrev pub invariant-loop-number : goal.invariant-loop-number
invariant-loop-number l = record {
  within : l.count ≤ l.number;
  counted : l.count + made_passed_from l.state l.number (drop l.number l.args) ≡ made_passed_from l.state 0 l.args;
}
