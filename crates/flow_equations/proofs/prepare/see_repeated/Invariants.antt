use Rattle.std.proofs.Common.{◌≡◌, drop, length}
use Rattle.flow_equations.specs.Prepared.{repeated_seen}
use Rattle.flow_equations.proofs.prepare.see_repeated.Given as goal

abbrev pub invariant-loop-place : goal.invariant-loop-place
invariant-loop-place l = record {
  facts : repeated_seen l.env (drop l.place l.variables) ≡ repeated_seen l.fn.env l.variables;
  len : length l.env ≡ length l.fn.env;
}
