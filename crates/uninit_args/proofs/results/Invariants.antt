use Rattle.std.proofs.Common.{◌≡◌, ◌++◌, drop}
use Rattle.uninit_args.specs.Results.{plans_of}
use Rattle.uninit_args.proofs.results.Given as goal

abbrev pub invariant-loop-place : goal.invariant-loop-place
invariant-loop-place l = l.plan.items ++ plans_of (drop l.place l.predicates) (drop l.place l.facts) ≡ plans_of l.predicates l.facts
