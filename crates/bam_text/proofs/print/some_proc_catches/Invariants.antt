use Rattle.std.proofs.Common.{◌≡◌, drop}
use Rattle.bam_text.specs.CodeText.{some_proc_catches}
use Rattle.bam_text.proofs.print.some_proc_catches.Given as goal

abbrev pub invariant-loop-proc : goal.invariant-loop-proc
invariant-loop-proc l = some_proc_catches (drop l.proc-index l.procs) ≡ some_proc_catches l.procs
