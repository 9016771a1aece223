use Rattle.std.proofs.Common.{◌≡◌, drop}
use Rattle.bam_types.specs.Enter.{number_arguments}
use Rattle.bam_types.proofs.enter.number_arguments.Given as goal

abbrev pub invariant-loop-declared : goal.invariant-loop-declared
invariant-loop-declared l =
    number_arguments l.state (drop l.declared-index l.args) ≡ number_arguments l.fn.state l.args
