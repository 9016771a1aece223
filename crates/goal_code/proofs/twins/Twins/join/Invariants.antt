use Rattle.std.specs.Prelude.{IsTrue}
use Rattle.std.specs.List.{list_all}
use Rattle.goal_code.specs.GoalLines.{is_plain}
use Rattle.goal_code.proofs.twins.Twins.join.Given as goal

abbrev pub invariant-loop-variable : goal.invariant-loop-variable
invariant-loop-variable l = IsTrue (list_all is_plain l.fn.goals) → IsTrue (list_all is_plain l.goals)
