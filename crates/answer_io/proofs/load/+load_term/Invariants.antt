use Rattle.aq_term.specs.PlainOf.{plain}
use Rattle.term_meaning.specs.Plain.{nodes}
use Rattle.answer_io.proofs.load.+load_term.Given as goal

abbrev pub decreases-load_term : goal.decreases-load_term
decreases-load_term l = nodes (plain l.term.now)
