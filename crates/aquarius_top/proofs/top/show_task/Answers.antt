use Rattle.std.proofs.Common.{subst}
use Rattle.std.proofs.lemmas.Result.{IfOk-weaker}
use Rattle.aquarius_top.specs.Compiled.{IsTaken, ShowReply}
use Rattle.aquarius_top.specs.FrontRefusal.{FrontRefuses}
use Rattle.aquarius_top.specs.Plan.{IsTaskFor, IsCompileTask}
use Rattle.aquarius_top.specs.Words.{to_show}
use Rattle.aquarius_top.proofs.ReplyRows.{compiled_show}
use Rattle.aquarius_top.proofs.top.show_task.Goals as goal

pub returns-in_ok-cause-in-Err : goal.returns-in_ok-cause-in-Err
returns-in_ok-cause-in-Err c =
    let refused = c.in_ok-cause-in-Err.ensures c.args.text.now c.as_bytes.result.now c.in-Err.ensures.refused in
    ShowReply.refused c.requires c.in_ok-cause-in-Err.cause
    (subst (λ q. FrontRefuses c.args.text.now q c.in_ok-cause-in-Err.cause) c.as_bytes.ensures.value refused)

pub returns-in-Ok : goal.returns-in-Ok
returns-in-Ok c =
    let taken : IsTaken c.as_bytes.result.now c.args.text.now = record {
      short = c.requires;
      entries = c.in-Ok.accepted.program.entries;
      program = c.in-Ok.ensures.program;
      place = c.in-Ok.accepted.entry;
      entered = c.in-Ok.ensures.entered;
    } in
    let own : IsTaken c.args.query.now c.args.text.now = subst (λ q. IsTaken q c.args.text.now) c.as_bytes.ensures.value taken in
    IfOk-weaker c.compile_task.result (IsCompileTask c.args.limits)
    (IsTaskFor (to_show (record { query = c.args.query.now; limits = c.args.limits })) c.args.text.now)
    (λ t made. compiled_show c.args.query.now c.args.text.now c.args.limits t own made) c.compile_task.ensures
