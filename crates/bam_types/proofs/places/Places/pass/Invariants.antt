use Rattle.std.proofs.Common.{◌≡◌, ◌++◌, map, take, drop}
use Rattle.bam_types.specs.Weakening.{pass_place}
use Rattle.bam_types.proofs.places.Places.pass.Given as goal

abbrev pub invariant-loop-place : goal.invariant-loop-place
invariant-loop-place l =
    l.place-items ≡ map (pass_place l.identity) (take l.place-index l.initial.place-items) ++ drop l.place-index l.initial.place-items
