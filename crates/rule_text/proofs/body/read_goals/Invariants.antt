use Rattle.std.proofs.Common.{◌++◌, length}
use Rattle.std.specs.Prelude.{codes}
use Rattle.source_meaning.specs.RuleProgram.{names_behind}
use Rattle.rule_text.proofs.BodyReads.{GoalsSoFar}
use Rattle.rule_text.proofs.body.read_goals.Given as goal

abbrev pub invariant-loop-behind : goal.invariant-loop-behind
invariant-loop-behind l = GoalsSoFar (codes " :- " ++ l.text) (names_behind l.goals.items) l.rest

abbrev pub decreases-loop-behind : goal.decreases-loop-behind
decreases-loop-behind l = length l.rest
