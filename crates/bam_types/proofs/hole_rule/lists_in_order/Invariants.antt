use Rattle.std.proofs.Common.{◌≡◌, drop}
use Rattle.bam_types.specs.HoleRule.{lists_from}
use Rattle.bam_types.proofs.hole_rule.lists_in_order.Given as goal

abbrev pub invariant-loop-number : goal.invariant-loop-number
invariant-loop-number l = lists_from l.items l.number (drop l.number l.arguments) ≡ lists_from l.items 0 l.arguments
