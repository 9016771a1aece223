-- What is built while a clause is read: terms with their depths, or the gravest fault.
use Rattle.std.specs.Prelude.{◌≡◌, ℕ, ℤ, pos, neg_ℤ, ◌+◌, ◌^◌, ◌-◌, ◌==◌, Bool, true, false, if◌then◌else◌, nat_lt, nat_le, min, max, List, [], ◌∷◌, ◌++◌, length, Option, Some, None, is_some}
use Rattle.term_meaning.specs.Plain.{Plain}
use Rattle.aq_term.specs.PlainOf.{plain}
use Rattle.aq_term.specs.declared.atom.Atom.{Atom}
use Rattle.aq_term.specs.declared.term.Term.{Term}
use Rattle.aq_term.specs.declared.term.Term.TheVariants as term
use Rattle.prolog_reader.specs.declared.built.TermFault.{TermFault}
use Rattle.prolog_reader.specs.declared.built.TermFault.TheVariants.{IntRange, ArityLimit, Depth}
use Rattle.prolog_reader.specs.declared.built.Measured.{Measured}
use Rattle.prolog_reader.specs.declared.built.Built.{Built}
use Rattle.prolog_reader.specs.declared.built.Built.TheVariants.{Whole, Faulty}

-- the graver of two faults
abbrev pub graver : TermFault → TermFault → TermFault
graver IntRange f = IntRange
graver ArityLimit IntRange = IntRange
graver ArityLimit ArityLimit = ArityLimit
graver ArityLimit Depth = ArityLimit
graver Depth f = f

-- a sum as a `u64` can tell it
abbrev pub sum_of : ℕ → ℕ → ℕ
sum_of a b = min (a + b) (2 ^ 64 - 1)

abbrev pub simple : Term → Built
simple t = Whole (record { term = t; depth = 1 })

abbrev pub of_depth : Term → ℕ → Built
of_depth t d = if nat_lt 4096 d then Faulty Depth else Whole (record { term = t; depth = d })

abbrev pub nil_name : Atom
nil_name = record { number = 46 }

abbrev pub curly_name : Atom
curly_name = record { number = 48 }

-- the compound of a name and one argument
abbrev pub unary : Atom → Built → Built
unary name (Faulty f) = Faulty f
unary name (Whole m) = of_depth (term.Compound name (plain m.term ∷ [])) (sum_of m.depth 1)

abbrev pub both : Atom → Measured → Measured → Built
both name m n = of_depth (term.Compound name (plain m.term ∷ plain n.term ∷ [])) (sum_of (max m.depth n.depth) 1)

-- the compound of a name and two arguments
abbrev pub binary : Atom → Built → Built → Built
binary name (Faulty f) (Faulty g) = Faulty (graver f g)
binary name (Faulty f) (Whole n) = Faulty f
binary name (Whole m) (Faulty g) = Faulty g
binary name (Whole m) (Whole n) = both name m n
