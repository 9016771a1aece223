use Rattle.std.proofs.Common.{◌≡◌, ◌++◌, drop, map}
use Rattle.std.specs.List.{All}
use Rattle.goal_code.specs.Procedures.{IsProcedure}
use Rattle.goal_code.specs.Signatures.{signature_of, signatures_due}
use Rattle.goal_code.proofs.goal_code.Given as goal

abbrev pub invariant-loop-number : goal.invariant-loop-number
invariant-loop-number l = record {
  signatures : map signature_of l.procs ++ signatures_due (drop l.number l.kernel.predicates) (drop l.number l.facts) (drop l.number l.outs) ≡ signatures_due l.kernel.predicates l.facts l.outs;
  procedures : All (IsProcedure l.kernel.predicates l.facts l.plans) l.procs;
}
