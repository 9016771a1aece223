use Rattle.std.proofs.Common.{rules}
use Rattle.kernel_form.proofs.Below.{barrier_below_more, goals_below_more, goals_below_push}
use Rattle.kernel_form.proofs.clause_form.ClauseForm.goals.Goals as goal

pub loop-place-preserved-in_default : goal.loop-place-preserved-in_default
loop-place-preserved-in_default c = record {
  barrier =
      barrier_below_more c.loop-place.variables c.goal.new.variables _ c.in_ok-goal.ensures.grows c.loop-place.invariant.barrier;
  below =
      goals_below_more c.loop-place.variables c.goal.new.variables _ c.in_ok-goal.ensures.grows c.loop-place.invariant.below;
  grows = search rules;
}

pub loop-place-preserved : goal.loop-place-preserved
loop-place-preserved c =
    let one = rw c.in-Some.is at c.in_ok-goal.ensures.below in
    record {
      barrier =
          barrier_below_more c.loop-place.variables c.goal.new.variables _ c.in_ok-goal.ensures.grows c.loop-place.invariant.barrier;
      below =
          rw c.in_ok-push.ensures.ok
          (goals_below_push c.loop-place.variables c.goal.new.variables _ _ c.in_ok-goal.ensures.grows c.loop-place.invariant.below one);
      grows = search rules;
    }
