use Rattle.reg_alloc.specs.Allocated.{IsAllocated}
use Rattle.reg_alloc.proofs.ZipLemmas.{AllZip-push}
use Rattle.reg_alloc.proofs.allocate.allocate_procs.Goals as goal

pub loop-proc-preserved : goal.loop-proc-preserved
loop-proc-preserved c =
    rw c.in_ok-push.ensures.ok (AllZip-push IsAllocated c.loop-proc.yielded c.loop-proc.allocated c.in-Some.proc c.in_ok-allocate_proc.field-0 c.loop-proc.invariant c.in_ok-allocate_proc.ensures)
