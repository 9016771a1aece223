use Rattle.std.proofs.Common.{◌≡◌, ◌++◌, map, take, drop}
use Rattle.bam_types.specs.Weakening.{without}
use Rattle.bam_types.proofs.places.Places.unset_all_of.Given as goal

abbrev pub invariant-loop-place : goal.invariant-loop-place
invariant-loop-place l =
    l.place-items ≡ map (without l.identity) (take l.place-index l.initial.place-items) ++ drop l.place-index l.initial.place-items
