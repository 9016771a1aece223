use Rattle.std.proofs.Common.{◌≡◌}
use Rattle.unify_special.specs.Steps.{steps_of}
use Rattle.goal_code.proofs.renumber.renumbered.Given as goal

abbrev pub invariant-loop-line : goal.invariant-loop-line
invariant-loop-line l = steps_of l.line-items ≡ steps_of l.initial.line-items
