use Rattle.std.proofs.Common.{◌≡◌, ◌++◌, drop}
use Rattle.reg_alloc.specs.LineRegisters.{items_registers}
use Rattle.reg_alloc.proofs.line_registers.note_items.Given as goal

abbrev pub invariant-loop-item : goal.invariant-loop-item
invariant-loop-item l = l.found.items ++ items_registers (drop l.item-index l.items) ≡ l.initial.found.items ++ items_registers l.items
