use Rattle.std.proofs.Common.{rules}
use Rattle.kernel_form.proofs.Below.{terms_below_push}
use Rattle.kernel_form.proofs.clause_form.ClauseForm.builtin.Goals as goal

pub loop-argument-preserved : goal.loop-argument-preserved
loop-argument-preserved c = record {
  below =
      rw c.in_ok-push.ensures.items
      (terms_below_push c.loop-argument.variables c.term.new.self c.loop-argument.placed.items c.in_ok-term.field-0
      c.in_ok-term.ensures.grows c.loop-argument.invariant.below c.in_ok-term.ensures.below);
  grows = search rules;
}
