use Rattle.std.proofs.Common.{◌≡◌, drop}
use Rattle.bam_types.specs.Scopes.{within_of}
use Rattle.bam_verify.specs.Accepts.{broken_from}
use Rattle.bam_verify.proofs.procedures.broken_in.Given as goal

abbrev pub invariant-loop-at : goal.invariant-loop-at
invariant-loop-at l =
    broken_from (within_of l.scope) l.state l.at (drop l.at l.lines) ≡ broken_from (within_of l.scope) l.fn.state 0 l.lines
