use Rattle.std.proofs.Common.{◌≡◌, ◌++◌, drop}
use Rattle.bam_text.specs.Operands.{items_text}
use Rattle.bam_text.proofs.print_operands.items.Given as goal

abbrev pub invariant-loop-one : goal.invariant-loop-one
invariant-loop-one l =
    l.output ++ items_text l.atoms (drop l.one-index l.items) ≡ l.fn.output ++ items_text l.atoms l.items
