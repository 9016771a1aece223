use Rattle.std.proofs.Common.{◌≡◌, drop}
use Rattle.determinism.specs.Keys.{head_key}
use Rattle.determinism.proofs.clause_key.head_key.Given as goal

abbrev pub invariant-loop-goal : goal.invariant-loop-goal
invariant-loop-goal l = head_key l.argument (drop l.goal-index l.goals) ≡ head_key l.argument l.goals
