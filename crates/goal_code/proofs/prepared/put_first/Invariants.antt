use Rattle.std.specs.Prelude.{IsTrue}
use Rattle.std.specs.List.{list_all}
use Rattle.goal_code.specs.GoalLines.{is_plain}
use Rattle.goal_code.proofs.prepared.put_first.Given as goal

abbrev pub invariant-loop-goal : goal.invariant-loop-goal
invariant-loop-goal l = IsTrue (list_all is_plain l.goals) → IsTrue (list_all is_plain l.fn.taken) → IsTrue (list_all is_plain l.taken)
