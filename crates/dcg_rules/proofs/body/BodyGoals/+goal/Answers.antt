use Rattle.dcg_rules.proofs.GrammarLemmas.{goal_of_made}
use Rattle.dcg_rules.proofs.body.BodyGoals.+goal.Goals as goal

pub goal-returns-in-Others-clause-made : goal.goal-returns-in-Others-clause-made
goal-returns-in-Others-clause-made t c =
    rw c.in-Compound.is
    (goal_of_made c.nonterminal-in-Others.result _ _ _ _ _ c.in-Others.ensures.0 c.in-Others.ensures.1 c.nonterminal-in-Others.ensures.made)
