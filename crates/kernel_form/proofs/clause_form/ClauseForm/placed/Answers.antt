use Rattle.std.proofs.Common.{rules}
use Rattle.kernel_form.proofs.Below.{terms_below_push}
use Rattle.kernel_form.proofs.clause_form.ClauseForm.placed.Goals as goal

pub loop-argument-preserved : goal.loop-argument-preserved
loop-argument-preserved c = record {
  below =
      rw c.in_ok-push.ensures.items
      (terms_below_push c.loop-argument.variables c.place.new.variables c.loop-argument.placed.items c.in_ok-place.field-0
      c.in_ok-place.ensures.grows c.loop-argument.invariant.below c.in_ok-place.ensures.below);
  grows = search rules;
  count = search rules;
}
