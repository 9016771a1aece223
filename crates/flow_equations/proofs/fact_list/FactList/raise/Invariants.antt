use Rattle.std.proofs.Common.{◌≡◌, ◌≤◌, ◌+◌, length}
use Rattle.flow_equations.specs.Rises.{all_rises_of, one_where}
use Rattle.flow_equations.proofs.fact_list.FactList.raise.Given as goal

abbrev pub invariant-loop-place : goal.invariant-loop-place
invariant-loop-place l = record {
  len : length l.self ≡ length l.fn.self;
  rises : all_rises_of l.self + one_where l.rose ≤ all_rises_of l.fn.self;
}
