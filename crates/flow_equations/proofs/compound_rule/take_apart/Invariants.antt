use Rattle.std.proofs.Common.{◌≡◌, length, take}
use Rattle.flow_equations.specs.Env.{all_changed}
use Rattle.flow_equations.specs.FactRules.{part_of_ground}
use Rattle.flow_equations.proofs.compound_rule.take_apart.Given as goal

abbrev pub invariant-loop-part : goal.invariant-loop-part
invariant-loop-part l = record {
  facts : l.env ≡ all_changed (part_of_ground l.whole) l.fn.env (take l.part-index l.parts);
  len : length l.env ≡ length l.fn.env;
}
