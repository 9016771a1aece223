use Rattle.aq_term.specs.PlainOf.{plain}
use Rattle.term_meaning.specs.Plain.{nodes}
use Rattle.source_program.proofs.outline_builder.+occur.Given as goal

abbrev pub decreases-occur : goal.decreases-occur
decreases-occur l = nodes (plain l.term.now)
