use Rattle.std.proofs.Common.{◌≡◌, length}
use Rattle.flow_equations.proofs.call_rule.call_rule.Given as goal

abbrev pub invariant-loop-place : goal.invariant-loop-place
invariant-loop-place l = length l.env ≡ length l.fn.env
