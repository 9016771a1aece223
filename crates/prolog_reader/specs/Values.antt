-- Rows of arguments and of elements.
use Rattle.std.specs.Prelude.{◌≡◌, ℕ, ℤ, pos, neg_ℤ, ◌+◌, ◌^◌, ◌-◌, ◌==◌, Bool, true, false, if◌then◌else◌, nat_lt, nat_le, min, max, List, [], ◌∷◌, ◌++◌, length, Option, Some, None, is_some}
use Rattle.term_meaning.specs.Plain.{Plain}
use Rattle.aq_term.specs.PlainOf.{plain}
use Rattle.aq_term.specs.declared.atom.Atom.{Atom}
use Rattle.aq_term.specs.declared.term.Term.{Term}
use Rattle.aq_term.specs.declared.term.Term.TheVariants as term
use Rattle.prolog_reader.specs.declared.built.TermFault.{TermFault}
use Rattle.prolog_reader.specs.declared.built.TermFault.TheVariants.{IntRange, ArityLimit, Depth}
use Rattle.prolog_reader.specs.declared.built.Measured.{Measured}
use Rattle.prolog_reader.specs.declared.built.Built.{Built}
use Rattle.prolog_reader.specs.declared.built.Built.TheVariants.{Whole, Faulty}
use Rattle.prolog_reader.specs.declared.row.Row.{Row}
use Rattle.prolog_reader.specs.Lists.{list_term}
use Rattle.prolog_reader.specs.Terms.{graver, sum_of, of_depth}

-- no item yet
abbrev pub no_row : Row
no_row = record { items = []; count = 0; depth = 1; fault = None }

abbrev pub graver_still : Option TermFault → TermFault → TermFault
graver_still None f = f
graver_still (Some g) f = graver f g

abbrev pub failed : Row → TermFault → Row
failed r f = record r { fault = Some (graver_still r.fault f) }

abbrev pub with_term : Row → Measured → ℕ → Row
with_term r m level =
    if is_some r.fault then r
    else (if nat_lt 4096 (sum_of m.depth level) then failed r Depth
    else record r { items = r.items ++ plain m.term ∷ []; depth = max r.depth (sum_of m.depth level) })

abbrev pub counted : Row → Row
counted r = record r { count = sum_of r.count 1 }

abbrev pub with_item : Row → Built → ℕ → Row
with_item r (Faulty f) level = failed (counted r) f
with_item r (Whole m) level = with_term (counted r) m level

abbrev pub with_argument : Row → Built → Row
with_argument r b = if nat_le 255 r.count then with_item (failed r ArityLimit) b 1 else with_item r b 1

abbrev pub with_element : Row → Built → Row
with_element r b = with_item r b (sum_of r.count 1)

abbrev pub compound_or : Atom → Row → Option TermFault → Built
compound_or name r None = of_depth (term.Compound name r.items) r.depth
compound_or name r (Some f) = Faulty f

abbrev pub compound_of : Atom → Row → Built
compound_of name r = compound_or name r r.fault

abbrev pub list_or : Row → Option TermFault → Measured → Built
list_or r None m = of_depth (list_term r.items m.term) (max r.depth (sum_of m.depth (length r.items)))
list_or r (Some f) m = Faulty f

abbrev pub list_of : Row → Built → Built
list_of r (Faulty f) = Faulty (graver_still r.fault f)
list_of r (Whole m) = list_or r r.fault m
