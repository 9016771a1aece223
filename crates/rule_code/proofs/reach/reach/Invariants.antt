use Rattle.std.proofs.Common.{◌+◌, ◌*◌, length}
use Rattle.rule_code.proofs.ReachLemmas.{Reaching, unmarked}
use Rattle.rule_code.proofs.reach.reach.Given as goal

abbrev pub invariant-loop-number : goal.invariant-loop-number
invariant-loop-number l = Reaching l.rows l.entry.name.number l.reached.items l.todo.items

abbrev pub decreases-loop-number : goal.decreases-loop-number
decreases-loop-number l = 2 * unmarked l.reached.items + length l.todo.items
