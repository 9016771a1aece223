use Rattle.std.proofs.Common.{subst}
use Rattle.std.proofs.lemmas.Result.{IfOk-weaker}
use Rattle.aquarius_top.specs.Compiled.{IsCompiledRun}
use Rattle.aquarius_top.specs.Plan.{IsPlan, IsTaskFor, IsCompileTask}
use Rattle.aquarius_top.specs.Words.{to_run}
use Rattle.aquarius_top.specs.declared.plan.Plan.TheVariants as plan
use Rattle.aquarius_top.proofs.ReplyRows.{compiled_run}
use Rattle.aquarius_top.proofs.top.run_task.Goals as goal

pub returns-in-Compile : goal.returns-in-Compile
returns-in-Compile c =
    let planned : IsPlan c.as_bytes.result.now c.args.text.now (plan.Compile c.in-Compile.accepted) =
    subst (IsPlan c.as_bytes.result.now c.args.text.now) c.in-Compile.is c.in_ok-cause.ensures in
    let own : IsCompiledRun c.args.query.now c.args.text.now = subst (λ q. IsCompiledRun q c.args.text.now) c.as_bytes.ensures.value planned in
    IfOk-weaker c.compile_task.result (IsCompileTask c.args.limits)
    (IsTaskFor (to_run (record { query = c.args.query.now; limits = c.args.limits })) c.args.text.now)
    (λ t made. compiled_run c.args.query.now c.args.text.now c.args.limits t own made) c.compile_task.ensures
