use Rattle.std.proofs.Common.{◌≡◌, ◌≤◌, ◌+◌, ◌*◌, ◌-◌, length}
use Rattle.unify_special.specs.Steps.{moves_of, steps_of}
use Rattle.unify_special.proofs.make.+make.Given as goal

abbrev pub decreases-make_compound : goal.decreases-make_compound
decreases-make_compound l = 3 * (length l.nodes.now - l.at)

abbrev pub decreases-make_part : goal.decreases-make_part
decreases-make_part l = 3 * (length l.nodes.now - l.at) + 1

abbrev pub decreases-make_parts : goal.decreases-make_parts
decreases-make_parts l = 3 * (length l.nodes.now - l.first) + 2

abbrev pub invariant-make_parts-loop : goal.invariant-make_parts-loop
invariant-make_parts-loop l = record {
  at : l.initial.first ≤ l.at;
  facts : length l.picture.facts ≡ length l.initial.picture.facts;
  places : length l.picture.places ≡ length l.initial.picture.places;
  steps : steps_of l.draft.lines ≡ steps_of l.initial.draft.lines;
  moves : moves_of l.draft.lines ≡ moves_of l.initial.draft.lines;
}
