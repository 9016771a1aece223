use Rattle.std.proofs.Common.{◌≡◌}
use Rattle.word_area.specs.Words.{copied}
use Rattle.word_area.proofs.area.Area.copy_upwards.Given as goal

abbrev pub invariant-loop-i : goal.invariant-loop-i
invariant-loop-i l = l.self ≡ copied l.from l.to l.i l.fn.self
