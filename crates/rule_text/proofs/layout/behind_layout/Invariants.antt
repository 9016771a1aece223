use Rattle.std.proofs.Common.{◌≡◌, false, drop}
use Rattle.source_meaning.specs.RuleFront.{behind_gap}
use Rattle.rule_text.proofs.layout.behind_layout.Given as goal

abbrev pub invariant-loop-at : goal.invariant-loop-at
invariant-loop-at l = behind_gap l.in_comment (drop l.at l.text) ≡ behind_gap false l.text
