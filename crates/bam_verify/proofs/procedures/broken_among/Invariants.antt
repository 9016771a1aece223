use Rattle.std.proofs.Common.{◌≡◌, drop}
use Rattle.bam_types.specs.Callees.{callee_in}
use Rattle.bam_verify.specs.Accepts.{broken_procs}
use Rattle.bam_verify.proofs.procedures.broken_among.Given as goal

abbrev pub invariant-loop-number : goal.invariant-loop-number
invariant-loop-number l =
    broken_procs (callee_in l.callees l.code) l.code l.number (drop l.number l.procs) ≡ broken_procs (callee_in l.callees l.code) l.code 0 l.procs
