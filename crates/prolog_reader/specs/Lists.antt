-- Lists as terms.
use Rattle.std.specs.Prelude.{List, [], ◌∷◌}
use Rattle.term_meaning.specs.Plain.{Plain}
use Rattle.aq_term.specs.PlainOf.{plain}
use Rattle.aq_term.specs.declared.atom.Atom.{Atom}
use Rattle.aq_term.specs.declared.term.Term.{Term}
use Rattle.aq_term.specs.declared.term.Term.TheVariants as term

abbrev pub list_name : Atom
list_name = record { number = 47 }

-- the list of these elements and this tail
abbrev pub list_term : List Plain → Term → Term
list_term [] tail = tail
list_term (x ∷ xs) tail = term.Compound list_name (x ∷ plain (list_term xs tail) ∷ [])
