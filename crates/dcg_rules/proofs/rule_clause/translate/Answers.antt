use Rattle.dcg_rules.proofs.GrammarLemmas.{other_than_rule}
use Rattle.dcg_rules.proofs.rule_clause.translate.Goals as goal

pub returns-in-Others-clause-head : goal.returns-in-Others-clause-head
returns-in-Others-clause-head c head body rule _ =
    absurd (other_than_rule _ _ head body c.in-Others.ensures.1 (rw c.in-Compound.is at rule))
