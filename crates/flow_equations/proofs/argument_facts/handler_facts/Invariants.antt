use Rattle.std.proofs.Common.{◌≡◌, ◌+◌, length}
use Rattle.flow_equations.proofs.argument_facts.handler_facts.Given as goal

abbrev pub invariant-loop-argument : goal.invariant-loop-argument
invariant-loop-argument l = length l.facts ≡ l.argument-index + 1
