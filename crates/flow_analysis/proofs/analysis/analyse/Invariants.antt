use Rattle.std.proofs.Common.{◌≡◌, map}
use Rattle.flow_equations.specs.Shape.{shape_of}
use Rattle.flow_analysis.proofs.analysis.analyse.Given as goal

abbrev pub invariant-loop-entry : goal.invariant-loop-entry
invariant-loop-entry l = map shape_of l.analysis.facts ≡ map shape_of l.initial.analysis.facts
