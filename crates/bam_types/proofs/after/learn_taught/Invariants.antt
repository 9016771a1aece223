use Rattle.std.proofs.Common.{◌≡◌, drop}
use Rattle.bam_types.specs.Effects.{learn_taught_from}
use Rattle.bam_types.proofs.after.learn_taught.Given as goal

abbrev pub invariant-loop-number : goal.invariant-loop-number
invariant-loop-number l = learn_taught_from l.number (drop l.number l.taught) l.state ≡ learn_taught_from 0 l.taught l.fn.state
