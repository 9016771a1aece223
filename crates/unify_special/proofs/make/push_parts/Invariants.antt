use Rattle.std.proofs.Common.{◌≡◌, length}
use Rattle.unify_special.specs.Steps.{moves_of, steps_of}
use Rattle.unify_special.proofs.make.push_parts.Given as goal

abbrev pub invariant-loop : goal.invariant-loop
invariant-loop l = record {
  facts : length l.picture.facts ≡ length l.fn.picture.facts;
  places : length l.picture.places ≡ length l.fn.picture.places;
  steps : steps_of l.draft.lines ≡ steps_of l.fn.draft.lines;
  moves : moves_of l.draft.lines ≡ moves_of l.fn.draft.lines;
}
