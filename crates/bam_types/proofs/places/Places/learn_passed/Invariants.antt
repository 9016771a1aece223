use Rattle.std.proofs.Common.{◌≡◌, drop}
use Rattle.bam_types.specs.Weakening.{learn_all_passed}
use Rattle.bam_types.proofs.places.Places.learn_passed.Given as goal

abbrev pub invariant-loop-place : goal.invariant-loop-place
invariant-loop-place l =
    learn_all_passed l.identity l.identities (drop l.place-index l.place-items) ≡ learn_all_passed l.identity l.fn.identities l.place-items
