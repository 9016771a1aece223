use Rattle.std.proofs.Common.{◌≡◌, drop}
use Rattle.bam_types.specs.Weakening.{learn_wholes}
use Rattle.bam_types.proofs.places.Places.learn_whole.Given as goal

abbrev pub invariant-loop-place : goal.invariant-loop-place
invariant-loop-place l =
    learn_wholes l.identities (drop l.place-index l.place-items) ≡ learn_wholes l.fn.identities l.place-items
