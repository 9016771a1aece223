-- The plain term that a term stands for.
use Rattle.std.specs.Prelude.{ℕ, min}
use Rattle.term_meaning.specs.Plain.{Plain, variable, integer, atom, compound, plains}
use Rattle.aq_term.specs.declared.term.Term.{Term}
use Rattle.aq_term.specs.declared.term.Term.TheVariants as term

abbrev pub plain : Term → Plain
plain (term.Var n) = variable n
plain (term.Int z) = integer z
plain (term.Atom a) = atom a.number
plain (term.Compound a ts) = compound a.number (plains ts)

-- a number as a `u64` can tell it: the greatest one stands for all that are greater
abbrev pub capped : ℕ → ℕ
capped n = min n 18446744073709551615
