use Rattle.std.proofs.Common.{◌∙◌, ap}
use Rattle.std.proofs.lemmas.Result.{IfOk-weaker}
use Rattle.aquarius_top.specs.Options.{limits_of}
use Rattle.aquarius_top.specs.Plan.{IsTaskFor, IsCompileTask}
use Rattle.aquarius_top.specs.Words.{to_work}
use Rattle.aquarius_top.proofs.ReplyRows.{compiled_work}
use Rattle.aquarius_top.proofs.top.work_task.Goals as goal

pub returns-in-Ok : goal.returns-in-Ok
returns-in-Ok c = λ text.
    IfOk-weaker c.compile_task.result (IsCompileTask c.limits-limits.result) (IsTaskFor (to_work c.args.work.seed c.args.work.size) text)
    (λ t made. compiled_work c.args.work.seed c.args.work.size text c.limits-limits.result t (c.limits-limits.ensures ∙ ap limits_of c.none.ensures) made)
    c.compile_task.ensures
