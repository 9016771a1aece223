use Rattle.std.proofs.Common.{◌≡◌, drop}
use Rattle.bam_types.specs.Effects.{fill_passed_from}
use Rattle.bam_types.proofs.after.fill_passed.Given as goal

abbrev pub invariant-loop-number : goal.invariant-loop-number
invariant-loop-number l = fill_passed_from l.number (drop l.number l.args) l.state ≡ fill_passed_from 0 l.args l.fn.state
