use Rattle.std.proofs.Common.{◌≤◌, ◌↔◌, length}
use Rattle.tag_word.specs.Tagged.{Tagged}
use Rattle.machine_store.specs.Derefs.{DerefsBelow, Derefs}
use Rattle.machine_store.proofs.store.Store.deref.Given as goal

abbrev pub invariant-loop-index : goal.invariant-loop-index
invariant-loop-index l =
    (l.below ≤ length l.fn.self.heap) × ((value : Tagged) → DerefsBelow l.fn.self.heap value l.below l.word ↔ Derefs l.fn.self.heap l.fn.word value)

abbrev pub decreases-loop-index : goal.decreases-loop-index
decreases-loop-index l = l.below
