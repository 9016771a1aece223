use Rattle.std.proofs.Common.{◌≤◌}
use Rattle.machine_terms.proofs.univ.list_of_compound.Given as goal

abbrev pub invariant-arguments : goal.invariant-arguments
invariant-arguments l = l.left ≤ l.fn.left
