use Rattle.bam_peephole.specs.Cleaned.{IsCleaned}
use Rattle.bam_peephole.proofs.ZipLemmas.{AllZip-push}
use Rattle.bam_peephole.proofs.clean.clean_procs.Goals as goal

pub loop-proc-preserved : goal.loop-proc-preserved
loop-proc-preserved c =
    rw c.in_ok-push.ensures.ok (AllZip-push IsCleaned c.loop-proc.yielded c.loop-proc.cleaned c.in-Some.proc c.in_ok-clean_proc.field-0 c.loop-proc.invariant c.in_ok-clean_proc.ensures)
