use Rattle.std.proofs.Common.{◌≡◌, length}
use Rattle.flow_equations.proofs.result_fact.result_facts.Given as goal

abbrev pub invariant-loop-place : goal.invariant-loop-place
invariant-loop-place l = length l.facts ≡ l.place
