use Rattle.aq_term.specs.PlainOf.{plain}
use Rattle.term_meaning.specs.Plain.{nodes}
use Rattle.source_program.proofs.body_goal.+most_called.Given as goal

abbrev pub decreases-most_called : goal.decreases-most_called
decreases-most_called l = nodes (plain l.term.now)
