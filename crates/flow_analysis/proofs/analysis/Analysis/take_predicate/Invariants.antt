use Rattle.std.proofs.Common.{◌≡◌, ◌≤◌, map}
use Rattle.flow_equations.specs.Shape.{shape_of}
use Rattle.flow_analysis.specs.Work.{work_of}
use Rattle.flow_analysis.proofs.analysis.Analysis.take_predicate.Given as goal

abbrev pub invariant-loop-clause : goal.invariant-loop-clause
invariant-loop-clause l = record {
  shape : map shape_of l.self.facts ≡ map shape_of l.fn.self.facts;
  less : work_of l.self.facts l.self.work ≤ work_of l.fn.self.facts l.fn.self.work;
}
