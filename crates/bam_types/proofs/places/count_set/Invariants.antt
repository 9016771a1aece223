use Rattle.std.proofs.Common.{◌≡◌, ◌+◌, ◌≤◌, drop}
use Rattle.bam_types.specs.Weakening.{count_set}
use Rattle.bam_types.proofs.places.count_set.Given as goal

abbrev pub invariant-loop-place : goal.invariant-loop-place
invariant-loop-place l = record {
  within : l.count ≤ l.place-index;
  counted : l.count + count_set (drop l.place-index l.places) ≡ count_set l.places;
}
