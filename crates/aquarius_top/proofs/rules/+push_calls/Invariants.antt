use Rattle.std.proofs.Common.{◌≤◌}
use Rattle.source_program.specs.declared.goal.Goal.{size-Goal}
use Rattle.aquarius_top.proofs.rules.+push_calls.Given as goal

abbrev pub decreases-push_calls : goal.decreases-push_calls
decreases-push_calls l = size-Goal l.goal.now

abbrev pub invariant-loop-rest : goal.invariant-loop-rest
invariant-loop-rest l = size-Goal l.rest ≤ size-Goal l.fn.goal

abbrev pub decreases-loop-rest : goal.decreases-loop-rest
decreases-loop-rest l = size-Goal l.rest
