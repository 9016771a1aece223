use Rattle.std.proofs.Common.{◌≡◌, List, [], ◌∷◌, refl, ap, sym, ◌∙◌}
use Rattle.term_meaning.specs.Plain.{Plain, items, plains}
use Rattle.answer_io.proofs.load_query.arguments_of.Goals as goal

-- the list of a list of terms
items_of : (ts : List Plain) → items (plains ts) ≡ ts
items_of [] = refl
items_of (t ∷ ts) = ap (λ (us : List Plain). t ∷ us) (items_of ts)

pub returns-in-Compound : goal.returns-in-Compound
returns-in-Compound c = rw c.in-Compound.is (c.from_vec.ensures ∙ c.into_vec.ensures ∙ sym (items_of c.in-Compound.args))
