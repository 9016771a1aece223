use Rattle.std.proofs.Common.{rules}
use Rattle.aq_term.specs.declared.term.Term.TheVariants as term
use Rattle.kernel_form.proofs.Below.{terms_below_push, variable_below}
use Rattle.kernel_form.proofs.clause_variables.ClauseVariables.numbers.Goals as goal

pub loop-variable-preserved : goal.loop-variable-preserved
loop-variable-preserved c =
    let number = c.in_ok-number.field-0 in
    record {
      below =
          rw c.in_ok-push.ensures.items
          (terms_below_push c.loop-variable.self c.number.new.self c.loop-variable.terms.items (term.Var number)
          c.in_ok-number.ensures.grows c.loop-variable.invariant.below (variable_below c.number.new.self number c.in_ok-number.ensures.below));
      grows = search rules;
      count = search rules;
    }
