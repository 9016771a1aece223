use Rattle.std.proofs.Common.{◌≡◌, true, take}
use Rattle.std.specs.List.{list_all}
use Rattle.type_lattice.specs.Facts.{below}
use Rattle.flow_equations.specs.Env.{fact_of}
use Rattle.flow_equations.proofs.compound_rule.are_below.Given as goal

abbrev pub invariant-loop-variable : goal.invariant-loop-variable
invariant-loop-variable l = list_all (λ variable. below (fact_of l.env variable) l.fact) (take l.variable-index l.variables) ≡ true
