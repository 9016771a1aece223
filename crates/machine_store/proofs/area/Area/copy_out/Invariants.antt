use Rattle.std.proofs.Common.{◌≡◌, ◌++◌, take, drop}
use Rattle.machine_store.proofs.area.Area.copy_out.Given as goal

abbrev pub invariant-loop-i : goal.invariant-loop-i
invariant-loop-i l = l.out ≡ take l.i (drop l.from l.self.words) ++ drop l.i l.fn.out
