use Rattle.std.proofs.Common.{◌≡◌, length}
use Rattle.answer_io.proofs.layout.own_cells.Given as goal

abbrev pub invariant-loop-arg : goal.invariant-loop-arg
invariant-loop-arg l = length l.layout.cells.items ≡ l.variables
