use Rattle.run_meaning.proofs.Laws.{events_grow, over_stays}
use Rattle.source_meaning.specs.SourceStep.{source_step}
use Rattle.source_meaning.proofs.laws.runs_go_on.Goals as goal

pub returns-clause-events_grow : goal.returns-clause-events_grow
returns-clause-events_grow c program state i j = events_grow (source_step program) i j state

pub returns-clause-stays_over : goal.returns-clause-stays_over
returns-clause-stays_over c program state i j ending is_over = over_stays (source_step program) i j state ending is_over
