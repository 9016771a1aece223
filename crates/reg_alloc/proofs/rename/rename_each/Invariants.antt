use Rattle.std.proofs.Common.{◌≡◌, ◌++◌, drop, map, take}
use Rattle.reg_alloc.specs.NewNumber.{new_number}
use Rattle.reg_alloc.specs.Renamed.{renamed_item}
use Rattle.reg_alloc.proofs.rename.rename_each.Given as goal

abbrev pub invariant-loop-item : goal.invariant-loop-item
invariant-loop-item l =
    l.item-items ≡ map (renamed_item (new_number l.renaming)) (take l.item-index l.initial.item-items) ++ drop l.item-index l.initial.item-items
