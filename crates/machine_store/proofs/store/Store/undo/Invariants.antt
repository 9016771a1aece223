use Rattle.std.proofs.Common.{◌≡◌, ◌-◌, ◌≤◌, drop, take, length}
use Rattle.machine_store.specs.Areas.{kept_heap, kept_trail, undone}
use Rattle.machine_store.proofs.store.Store.undo.Given as goal

abbrev pub invariant-loop-at : goal.invariant-loop-at
invariant-loop-at l =
    (l.self ≡ record l.fn.self { heap = l.self.heap }) × (undone (drop l.at l.fn.self.trail) l.self.heap ≡ undone (drop (kept_trail l.fn.self) l.fn.self.trail) (take (kept_heap l.fn.self) l.fn.self.heap))

abbrev pub decreases-loop-at : goal.decreases-loop-at
decreases-loop-at l = length l.fn.self.trail - l.at
