use Rattle.move_coalescing.specs.Coalesced.{IsCoalesced}
use Rattle.move_coalescing.proofs.ZipLemmas.{AllZip-push}
use Rattle.move_coalescing.proofs.coalesce.coalesce_procs.Goals as goal

pub loop-proc-preserved : goal.loop-proc-preserved
loop-proc-preserved c =
    rw c.in_ok-push.ensures.ok (AllZip-push IsCoalesced c.loop-proc.yielded c.loop-proc.coalesced c.in-Some.proc c.in_ok-coalesce_proc.field-0 c.loop-proc.invariant c.in_ok-coalesce_proc.ensures)
