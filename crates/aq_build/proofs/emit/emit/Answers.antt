use Rattle.std.proofs.Common.{All}
use Rattle.std.specs.List.{AllZip}
use Rattle.std.proofs.lemmas.Result.{IfOk-weaker}
use Rattle.aq_build.specs.Built.{IsBuilt}
use Rattle.aq_build.proofs.Finished.{all_finished}
use Rattle.aq_build.proofs.Procedures.{built_procedures}
use Rattle.reg_alloc.specs.Allocated.{IsAllocated}
use Rattle.aq_build.proofs.emit.emit.Goals as goal

pub returns-clause-procedures : goal.returns-clause-procedures
returns-clause-procedures c =
    let ps = c.args.kernel.now.predicates in
    let fs = c.args.facts.now in
    let cleaned = c.in_ok-cleaned.cleaned.procs in
    let coalesced = c.in_ok-coalesced.coalesced.procs in
    IfOk-weaker c.allocate.result (λ code. AllZip IsAllocated coalesced code.procs) (λ code. All (IsBuilt ps fs) code.procs)
    (λ code allocated. built_procedures ps fs _ c.in_ok-code.code.procs cleaned code.procs c.in_ok-plans.ensures.plans c.in_ok-code.ensures.procedures c.in_ok-cleaned.ensures.procs (all_finished cleaned coalesced code.procs c.in_ok-coalesced.ensures.procs allocated))
    c.allocate.ensures.procs
