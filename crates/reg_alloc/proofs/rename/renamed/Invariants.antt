use Rattle.std.specs.List.{AllZip}
use Rattle.reg_alloc.specs.NewNumber.{new_number}
use Rattle.reg_alloc.specs.Renamed.{IsRenamed}
use Rattle.reg_alloc.proofs.rename.renamed.Given as goal

abbrev pub invariant-loop-line : goal.invariant-loop-line
invariant-loop-line l = AllZip (IsRenamed (new_number l.renaming)) l.yielded l.renamed.items
