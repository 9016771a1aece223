use Rattle.std.proofs.Common.{◌≡◌, length}
use Rattle.unify_special.proofs.pattern.void_unwanted.Given as goal

abbrev pub invariant-loop-at : goal.invariant-loop-at
invariant-loop-at l = record {
  facts : length l.picture.facts ≡ length l.fn.picture.facts;
  places : length l.picture.places ≡ length l.fn.picture.places;
}
