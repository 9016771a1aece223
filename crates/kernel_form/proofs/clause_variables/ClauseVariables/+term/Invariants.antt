use Rattle.std.proofs.Common.{◌≤◌, map}
use Rattle.aq_term.specs.PlainOf.{plain}
use Rattle.term_meaning.specs.Plain.{nodes}
use Rattle.kernel_form.specs.Own.{AreTermsBelow}
use Rattle.kernel_form.proofs.clause_variables.ClauseVariables.+term.Given as goal

abbrev pub decreases-term : goal.decreases-term
decreases-term l = nodes (plain l.term.now)

abbrev pub invariant-loop-argument : goal.invariant-loop-argument
invariant-loop-argument l = record {
  below : AreTermsBelow l.self (map plain l.copies.items);
  grows : l.fn.self ≤ l.self;
}
