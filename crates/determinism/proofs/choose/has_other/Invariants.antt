use Rattle.std.proofs.Common.{◌≡◌, false, take}
use Rattle.std.specs.List.{list_any}
use Rattle.determinism.specs.Distinct.{is_other}
use Rattle.determinism.proofs.choose.has_other.Given as goal

abbrev pub invariant-loop-other : goal.invariant-loop-other
invariant-loop-other l = list_any (is_other l.key) (take l.other-index l.keys) ≡ false
