use Rattle.std.proofs.Common.{ap, Err}
use Rattle.aquarius_top.proofs.ReplyRows.{some_told}
use Rattle.aquarius_top.proofs.top.read_task.Goals as goal

pub returns-in-Err-Bad-clause-task : goal.returns-in-Err-Bad-clause-task
returns-in-Err-Bad-clause-task g c =
    let told = some_told (g.S.Source.remaining c.args.source.now) in
    (told.0, told.1, c.in-Err-Bad.ensures.bad.0 (ap Err c.in-Err-Bad.field-0-is))
