use Rattle.std.proofs.Common.{◌≡◌, drop}
use Rattle.bam_types.specs.Enter.{hold_all}
use Rattle.bam_types.proofs.enter.hold_all.Given as goal

abbrev pub invariant-loop-item : goal.invariant-loop-item
invariant-loop-item l = hold_all l.state (drop l.item-index l.items) ≡ hold_all l.fn.state l.items
