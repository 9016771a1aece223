use Rattle.std.proofs.Common.{subst, sym}
use Rattle.aquarius_top.specs.Plan.{IsTaskFor}
use Rattle.aquarius_top.proofs.ReplyRows.{some_told}
use Rattle.aquarius_top.proofs.top.task_of.Goals as goal

pub returns-in_ok-work_task-in-Some-clause-task : goal.returns-in_ok-work_task-in-Some-clause-task
returns-in_ok-work_task-in-Some-clause-task g c =
    let told = some_told (g.S.Source.remaining c.args.source.now) in (
      told.0,
      told.1,
      subst (λ asking. IsTaskFor asking told.0 c.in_ok-work_task-in-Some.field-0) (sym c.in-Some.ensures)
          (c.in_ok-work_task-in-Some.ensures told.0),
    )
