use Rattle.std.proofs.Common.{◌≡◌, length}
use Rattle.unify_special.proofs.pattern.forget.Given as goal

abbrev pub invariant-loop-node : goal.invariant-loop-node
invariant-loop-node l = record {
  facts : length l.picture.facts ≡ length l.fn.picture.facts;
  places : l.picture.places ≡ l.fn.picture.places;
}
