use Rattle.std.proofs.Common.{◌≡◌, drop}
use Rattle.goal_code.specs.Passed.{passed}
use Rattle.goal_code.proofs.call.see_passed.Given as goal

abbrev pub invariant-loop-place : goal.invariant-loop-place
invariant-loop-place l = passed l.env (drop l.place l.arguments) (drop l.place l.calls) ≡ passed l.fn.env l.arguments l.calls
