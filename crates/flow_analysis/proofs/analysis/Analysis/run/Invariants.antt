use Rattle.std.proofs.Common.{◌≡◌, map}
use Rattle.flow_equations.specs.Shape.{shape_of}
use Rattle.flow_analysis.specs.Work.{work_of}
use Rattle.flow_analysis.proofs.analysis.Analysis.run.Given as goal

abbrev pub invariant-loop-rise : goal.invariant-loop-rise
invariant-loop-rise l = map shape_of l.self.facts ≡ map shape_of l.fn.self.facts

abbrev pub decreases-loop-rise : goal.decreases-loop-rise
decreases-loop-rise l = work_of l.self.facts l.self.work
