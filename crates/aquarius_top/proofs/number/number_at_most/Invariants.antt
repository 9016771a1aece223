use Rattle.std.proofs.Common.{◌≡◌, drop}
use Rattle.aquarius_top.specs.Number as spec
use Rattle.aquarius_top.proofs.number.number_at_most.Given as goal

abbrev pub invariant-loop-byte : goal.invariant-loop-byte
invariant-loop-byte l = record {
  reads : spec.number_of l.text ≡ spec.digits_from l.value (drop l.byte-index l.rest);
}
