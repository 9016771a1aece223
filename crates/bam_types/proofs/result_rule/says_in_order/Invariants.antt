use Rattle.std.proofs.Common.{◌≡◌, drop, option_copied}
use Rattle.bam_types.specs.LineRules.{says_from}
use Rattle.bam_types.proofs.result_rule.says_in_order.Given as goal

abbrev pub invariant-loop-number : goal.invariant-loop-number
invariant-loop-number l =
    says_from l.state (option_copied l.callee) l.results l.number (drop l.number l.arguments) ≡ says_from l.state (option_copied l.callee) l.results 0 l.arguments
