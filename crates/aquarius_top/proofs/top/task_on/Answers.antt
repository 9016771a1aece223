use Rattle.std.proofs.Common.{subst, sym}
use Rattle.std.specs.Prelude.{IfOk}
use Rattle.aquarius_top.specs.Plan.{IsTaskFor}
use Rattle.aquarius_top.specs.Words.{asking_of}
use Rattle.aquarius_top.proofs.top.task_on.Goals as goal

pub returns : goal.returns
returns c =
    subst (λ command. IfOk c.work_task.result (IsTaskFor (asking_of command) c.args.text.items)) (sym c.in-Work.is)
    (c.work_task.ensures c.args.text.items)
