use Rattle.std.proofs.Common.{◌≡◌, drop}
use Rattle.bam_types.specs.EntryRule.{takes_from}
use Rattle.bam_types.proofs.entry_rule.takes_in_order.Given as goal

abbrev pub invariant-loop-number : goal.invariant-loop-number
invariant-loop-number l = takes_from l.args l.number (drop l.number l.modes) ≡ takes_from l.args 0 l.modes
