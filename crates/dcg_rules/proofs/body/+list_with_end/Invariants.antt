use Rattle.aq_term.specs.PlainOf.{plain}
use Rattle.term_meaning.specs.Plain.{nodes}
use Rattle.dcg_rules.proofs.body.+list_with_end.Given as goal

abbrev pub decreases-list_with_end : goal.decreases-list_with_end
decreases-list_with_end l = nodes (plain l.list.now)
