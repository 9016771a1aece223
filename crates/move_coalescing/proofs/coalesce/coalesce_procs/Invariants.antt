use Rattle.std.specs.List.{AllZip}
use Rattle.move_coalescing.specs.Coalesced.{IsCoalesced}
use Rattle.move_coalescing.proofs.coalesce.coalesce_procs.Given as goal

abbrev pub invariant-loop-proc : goal.invariant-loop-proc
invariant-loop-proc l = AllZip IsCoalesced l.yielded l.coalesced
