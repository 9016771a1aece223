-- Lists as terms, from their ends.
use Rattle.std.proofs.Common.{◌≡◌, List, [], ◌∷◌, ◌++◌, map, refl, ap}
use Rattle.aq_term.specs.PlainOf.{plain}
use Rattle.aq_term.specs.declared.term.Term.{Term}
use Rattle.aq_term.specs.declared.term.Term.TheVariants as term
use Rattle.prolog_reader.specs.Lists.{list_term, list_name}

-- the last element and the tail make a cell, which is the tail of the others
pub list_term_last : (xs : List Term) (x t : Term) → list_term (map plain xs) (term.Compound list_name (plain x ∷ plain t ∷ [])) ≡ list_term (map plain (xs ++ x ∷ [])) t
list_term_last [] x t = refl
list_term_last (y ∷ xs) x t = ap (λ (r : Term). term.Compound list_name (plain y ∷ plain r ∷ [])) (list_term_last xs x t)
