use Rattle.std.proofs.Common.{◌≡◌, length}
use Rattle.unify_special.proofs.pattern.pattern_of.Given as goal

abbrev pub invariant-loop-one : goal.invariant-loop-one
invariant-loop-one l = record {
  facts : length l.picture.facts ≡ length l.fn.picture.facts;
  places : length l.picture.places ≡ length l.fn.picture.places;
  lines : l.draft.lines ≡ l.fn.draft.lines;
}
