use Rattle.std.proofs.Common.{◌≡◌, length, take}
use Rattle.type_lattice.specs.Facts.{with}
use Rattle.type_lattice.specs.declared.fact.Fact.TheVariants as fact
use Rattle.flow_equations.specs.Env.{all_changed}
use Rattle.flow_equations.proofs.env.ground_all.Given as goal

abbrev pub invariant-loop-variable : goal.invariant-loop-variable
invariant-loop-variable l = record {
  facts : l.env ≡ all_changed (λ before. with before fact.Ground) l.fn.env (take l.variable-index l.variables);
  len : length l.env ≡ length l.fn.env;
}
