use Rattle.std.proofs.Common.{◌≡◌, ◌+◌, ◌-◌, ◌≤◌}
use Rattle.word_area.specs.Words.{copied}
use Rattle.word_area.proofs.area.Area.copy_downwards.Given as goal

abbrev pub invariant-loop-left : goal.invariant-loop-left
invariant-loop-left l = (l.left ≤ l.count) × (l.self ≡ copied (l.from + l.left) (l.to + l.left) (l.count - l.left) l.fn.self)

abbrev pub decreases-loop-left : goal.decreases-loop-left
decreases-loop-left l = l.left
