use Rattle.std.proofs.Common.{◌≡◌, drop}
use Rattle.bam_types.specs.Enter.{start_from}
use Rattle.bam_types.proofs.enter.start_arguments.Given as goal

abbrev pub invariant-loop-number : goal.invariant-loop-number
invariant-loop-number l =
    start_from l.results l.number (drop l.number l.args) l.state ≡ start_from l.results 0 l.args l.fn.state
