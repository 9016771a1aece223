use Rattle.std.specs.List.{AllZip}
use Rattle.bam_peephole.specs.Cleaned.{IsCleaned}
use Rattle.bam_peephole.proofs.clean.clean_procs.Given as goal

abbrev pub invariant-loop-proc : goal.invariant-loop-proc
invariant-loop-proc l = AllZip IsCleaned l.yielded l.cleaned
