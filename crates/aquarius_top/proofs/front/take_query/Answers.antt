use Rattle.std.proofs.Common.{Err, ap}
use Rattle.aquarius_top.specs.FrontRefusal.{IsQueryRefusal}
use Rattle.aquarius_top.proofs.NamedVariables.{all_named}
use Rattle.aquarius_top.proofs.front.take_query.Goals as goal

pub returns-in-Err-Syntax-clause-refused : goal.returns-in-Err-Syntax-clause-refused
returns-in-Err-Syntax-clause-refused c = IsQueryRefusal.syntax_fault (c.in-Err-Syntax.ensures.refused (ap Err c.in-Err-Syntax.field-0-is))

pub returns-in-Err-NotEntry-clause-refused : goal.returns-in-Err-NotEntry-clause-refused
returns-in-Err-NotEntry-clause-refused c =
    IsQueryRefusal.not_entry c.in-Ok.read c.in-Ok.ensures.read (c.in-Err-NotEntry.ensures.not_entry (ap Err c.in-Err-NotEntry.field-0-is))

pub returns-in-Err-Mode-clause-refused : goal.returns-in-Err-Mode-clause-refused
returns-in-Err-Mode-clause-refused c = IsQueryRefusal.mode c.in-Ok.read c.in-Ok.ensures.read _
    (c.in-Err-Mode.ensures.mode _ (all_named _ _ c.in-Ok.ensures.read.reading.readable.below) (ap Err c.in-Err-Mode.field-0-is))

pub returns-in-Ok-query_entry-clause-entered : goal.returns-in-Ok-query_entry-clause-entered
returns-in-Ok-query_entry-clause-entered c =
    let taken = c.in-Ok-query_entry.ensures.taken (all_named _ _ c.in-Ok.ensures.read.reading.readable.below) in
    (c.in-Ok.read, c.in-Ok.ensures.read, taken.0, taken.1, taken.2)
