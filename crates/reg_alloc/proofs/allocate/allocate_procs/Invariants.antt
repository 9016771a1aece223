use Rattle.std.specs.List.{AllZip}
use Rattle.reg_alloc.specs.Allocated.{IsAllocated}
use Rattle.reg_alloc.proofs.allocate.allocate_procs.Given as goal

abbrev pub invariant-loop-proc : goal.invariant-loop-proc
invariant-loop-proc l = AllZip IsAllocated l.yielded l.allocated
