-- The arguments of a compound as a list.
use Rattle.std.proofs.Common.{◌≡◌, List, [], ◌∷◌, refl, ap}
use Rattle.term_meaning.specs.Plain.{Plain, items, plains}

pub items_plains : (terms : List Plain) → items (plains terms) ≡ terms
items_plains [] = refl
items_plains (term ∷ terms) = ap (λ (rest : List Plain). term ∷ rest) (items_plains terms)
