use Rattle.std.proofs.Common.{◌≡◌, drop}
use Rattle.bam_types.specs.CallRule.{passes_from}
use Rattle.bam_types.proofs.call_rule.passes_in_order.Given as goal

abbrev pub invariant-loop-number : goal.invariant-loop-number
invariant-loop-number l = passes_from l.state l.results l.number (drop l.number l.args) ≡ passes_from l.state l.results 0 l.args
