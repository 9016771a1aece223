use Rattle.std.proofs.Common.{◌≡◌, ◌≤◌, length, map}
use Rattle.aq_term.specs.PlainOf.{plain}
use Rattle.kernel_form.specs.Own.{AreTermsBelow}
use Rattle.kernel_form.proofs.clause_variables.ClauseVariables.numbers.Given as goal

abbrev pub invariant-loop-variable : goal.invariant-loop-variable
invariant-loop-variable l = record {
  below : AreTermsBelow l.self (map plain l.terms.items);
  grows : l.fn.self ≤ l.self;
  count : length l.terms.items ≡ l.variable-index;
}
