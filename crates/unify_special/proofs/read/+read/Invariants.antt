use Rattle.std.proofs.Common.{◌≡◌, ◌≤◌, ◌+◌, ◌*◌, ◌-◌, length}
use Rattle.unify_special.specs.Steps.{moves_of, steps_of}
use Rattle.unify_special.proofs.read.+read.Given as goal

abbrev pub decreases-read_argument : goal.decreases-read_argument
decreases-read_argument l = 4 * (length l.nodes.now - l.at) + 2

abbrev pub decreases-read_arguments : goal.decreases-read_arguments
decreases-read_arguments l = 4 * (length l.nodes.now - l.first) + 3

abbrev pub decreases-read_compound : goal.decreases-read_compound
decreases-read_compound l = 4 * (length l.nodes.now - l.at)

abbrev pub decreases-read_nested : goal.decreases-read_nested
decreases-read_nested l = 4 * (length l.nodes.now - l.at) + 1

abbrev pub decreases-read_or_make : goal.decreases-read_or_make
decreases-read_or_make l = 4 * (length l.nodes.now - l.at)

abbrev pub invariant-read_arguments-loop-number : goal.invariant-read_arguments-loop-number
invariant-read_arguments-loop-number l = record {
  at : l.initial.first ≤ l.at;
  facts : length l.picture.facts ≡ length l.initial.picture.facts;
  places : length l.picture.places ≡ length l.initial.picture.places;
  steps : steps_of l.draft.lines ≡ steps_of l.initial.draft.lines;
  moves : moves_of l.draft.lines ≡ moves_of l.initial.draft.lines;
}
