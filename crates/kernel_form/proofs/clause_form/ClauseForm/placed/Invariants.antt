use Rattle.std.proofs.Common.{◌≡◌, ◌≤◌, length, map}
use Rattle.aq_term.specs.PlainOf.{plain}
use Rattle.kernel_form.specs.Own.{AreTermsBelow}
use Rattle.kernel_form.proofs.clause_form.ClauseForm.placed.Given as goal

abbrev pub invariant-loop-argument : goal.invariant-loop-argument
invariant-loop-argument l = record {
  below : AreTermsBelow l.variables (map plain l.placed.items);
  grows : l.fn.variables ≤ l.variables;
  count : length l.placed.items ≡ l.argument-index;
}
