use Rattle.std.proofs.Common.{◌≡◌}
use Rattle.aq_term.specs.PlainOf.{plain}
use Rattle.dcg_rules.specs.Grammar.{derives, IsRule}
use Rattle.source_program.proofs.RuleLemmas.{rule_of_two, fault_of_rule}
use Rattle.source_program.proofs.clause_form.clause_form.Goals as goal

pub returns-in-ARROW-clause-refused : goal.returns-in-ARROW-clause-refused
returns-in-ARROW-clause-refused c kind refused =
    let name : c.in-Compound.name.number ≡ derives = cc in
    let rule : IsRule (plain c.in-Two.field-0.now) (plain c.in-Two.field-1.now) (plain c.args.read.now.term) =
    rw c.in-Compound.is (rule_of_two _ _ _ _ name c.in-Two.ensures) in
    rw c.in-Compound.is
    (fault_of_rule _ _ _ _ _ kind name c.in-Two.ensures (c.rule_form.ensures.refused _ _ kind rule refused))
