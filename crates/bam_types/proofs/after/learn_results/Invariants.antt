use Rattle.std.proofs.Common.{◌≡◌, drop}
use Rattle.bam_types.specs.Effects.{learn_results_from}
use Rattle.bam_types.proofs.after.learn_results.Given as goal

abbrev pub invariant-loop-number : goal.invariant-loop-number
invariant-loop-number l =
    learn_results_from l.results l.number (drop l.number l.args) l.state ≡ learn_results_from l.results 0 l.args l.fn.state
