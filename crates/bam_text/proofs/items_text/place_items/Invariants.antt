use Rattle.std.proofs.Common.{length}
use Rattle.bam_text.proofs.items_text.place_items.Given as goal

abbrev pub invariant-loop-alloc : goal.invariant-loop-alloc
invariant-loop-alloc l = Unit {0}

abbrev pub decreases-loop-alloc : goal.decreases-loop-alloc
decreases-loop-alloc l = length l.fields
