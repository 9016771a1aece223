use Rattle.std.proofs.Common.{◌≡◌, drop, length, map}
use Rattle.aq_term.specs.PlainOf.{plain}
use Rattle.term_meaning.specs.Plain.{plains}
use Rattle.source_program.specs.ClauseFaults.{are_modes}
use Rattle.source_program.proofs.clause_form.modes_of.Given as goal

abbrev pub invariant-loop-argument : goal.invariant-loop-argument
invariant-loop-argument l = record {
  length : length l.modes ≡ l.argument-index;
  rest : are_modes (plains l.arguments) ≡ are_modes (plains (map plain (drop l.argument-index l.argument-items)));
}
