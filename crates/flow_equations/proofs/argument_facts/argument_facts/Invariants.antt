use Rattle.std.proofs.Common.{◌≡◌, map, take}
use Rattle.aq_term.specs.PlainOf.{plain}
use Rattle.flow_equations.specs.ArgumentFacts.{argument_fact}
use Rattle.flow_equations.proofs.argument_facts.argument_facts.Given as goal

abbrev pub invariant-loop-argument : goal.invariant-loop-argument
invariant-loop-argument l = l.facts ≡ map (argument_fact l.env) (map plain (take l.argument-index l.arguments))
