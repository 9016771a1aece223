use Rattle.std.proofs.Common.{◌≡◌, length, take}
use Rattle.flow_equations.specs.Env.{all_changed}
use Rattle.flow_equations.specs.FactRules.{seen}
use Rattle.flow_equations.proofs.env.see_all.Given as goal

abbrev pub invariant-loop-variable : goal.invariant-loop-variable
invariant-loop-variable l = record {
  facts : l.env ≡ all_changed seen l.fn.env (take l.variable-index l.variables);
  len : length l.env ≡ length l.fn.env;
}
