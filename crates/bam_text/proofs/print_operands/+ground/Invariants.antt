use Rattle.std.proofs.Common.{◌≡◌, ◌+◌, ◌++◌, ◌*◌, map, drop}
use Rattle.term_meaning.specs.Plain.{nodes, nodes_of_all, plains}
use Rattle.aq_term.specs.PlainOf.{plain}
use Rattle.bam_text.specs.Operands.{later_text}
use Rattle.bam_text.proofs.print_operands.+ground.Given as goal

abbrev pub decreases-ground : goal.decreases-ground
decreases-ground l = 2 * nodes (plain l.term.now)

abbrev pub decreases-arguments : goal.decreases-arguments
decreases-arguments l = 2 * nodes_of_all (plains l.args.now) + 1

abbrev pub invariant-arguments-loop-arg : goal.invariant-arguments-loop-arg
invariant-arguments-loop-arg l =
    l.output ++ later_text l.atoms l.before (plains (map plain (drop l.arg-index l.arg-items))) ≡ l.initial.output ++ later_text l.atoms 40 (plains (map plain l.arg-items))
