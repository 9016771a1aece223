use Rattle.std.proofs.Common.{◌≡◌, ◌≤◌, [], fold, length, map, take}
use Rattle.aq_term.specs.Atoms.{with_text}
use Rattle.aq_term.proofs.atoms.Atoms.of_texts.Given as goal

abbrev pub invariant-loop-text : goal.invariant-loop-text
invariant-loop-text l = record {
  made : l.atoms ≡ fold with_text [] (map (λ t. t.now) (take l.text-index l.texts));
  few : length l.atoms ≤ l.text-index;
}
