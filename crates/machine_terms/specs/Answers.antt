-- The outcomes of a built-in that answers.
use Rattle.std.specs.Prelude.{Bool, true, false}
use Rattle.machine_terms.specs.declared.outcome.Outcome.{Outcome}
use Rattle.machine_terms.specs.declared.outcome.Outcome.TheVariants as outcome

-- whether an outcome is one or two words to be unified, or a failing
abbrev pub is_answer : Outcome → Bool
is_answer (outcome.Made word) = true
is_answer (outcome.MadeTwo name arity) = true
is_answer outcome.Fails = true
is_answer (outcome.Raises ball) = false
is_answer outcome.Stopped = false
is_answer (outcome.Full area) = false
is_answer outcome.Stray = false
