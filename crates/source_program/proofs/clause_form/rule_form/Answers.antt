use Rattle.std.proofs.Common.{Err, ap, sym, ◌∙◌}
use Rattle.source_program.proofs.RuleLemmas.{fault_of_none, fault_of_made, key_of_made, arguments_of_made}
use Rattle.source_program.proofs.clause_form.rule_form.Goals as goal

pub returns-in_err-made-clause-refused : goal.returns-in_err-made-clause-refused
returns-in_err-made-clause-refused c head body kind rule refused =
    fault_of_none c.in_err-made.field-0.0 kind _ _
    (λ e. c.in_err-made.ensures.head head body rule (ap Err e))
    (λ e. c.in_err-made.ensures.body head body rule (ap Err e))
    (sym (rw refused at c.from_residual.ensures.1))

pub returns-in_err-clause-clause-refused : goal.returns-in_err-clause-clause-refused
returns-in_err-clause-clause-refused c head body kind rule refused =
    fault_of_made _ _ _ _ (c.in_ok-made.ensures.made head body rule)
    ∙ c.in_err-clause.ensures.refused kind (ap Err (sym (rw refused at c.from_residual-in_err-clause.ensures.1)))

pub returns-clause-ok : goal.returns-clause-ok
returns-clause-ok c head body rule =
    fault_of_made _ _ _ _ (c.in_ok-made.ensures.made head body rule) ∙ c.in_ok-clause.ensures.ok

pub returns-clause-key : goal.returns-clause-key
returns-clause-key c head body rule = (
  key_of_made _ _ _ _ (c.in_ok-made.ensures.made head body rule) ∙ c.in_ok-clause.ensures.key,
  arguments_of_made _ _ _ _ (c.in_ok-made.ensures.made head body rule) ∙ c.in_ok-clause.ensures.arguments,
)
