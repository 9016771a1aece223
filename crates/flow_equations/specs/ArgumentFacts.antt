-- The fact of a call's argument.
use Rattle.term_meaning.specs.Plain.{Plain, variable, integer, atom, compound}
use Rattle.type_lattice.specs.declared.fact.Fact.{Fact}
use Rattle.type_lattice.specs.declared.fact.Fact.TheVariants as fact
use Rattle.flow_equations.specs.Env.{Env, fact_of}

abbrev pub argument_fact : Env → Plain → Fact
argument_fact env (variable n) = fact_of env n
argument_fact env (integer z) = fact.Full
argument_fact env (atom a) = fact.Full
argument_fact env (compound a ts) = fact.Any
