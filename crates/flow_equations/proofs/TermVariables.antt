-- The variables of the first terms of a list.
use Rattle.std.proofs.Common.{◌≡◌, ℕ, ◌+◌, ◌<◌, List, [], ◌∷◌, ◌++◌, get_or, length, map, take, refl, append_assoc, append-nil}
use Rattle.term_meaning.specs.Plain.{Plain, plains, variables, variables_of_all}
use Rattle.aq_term.proofs.Callers.{map-take-suc}
use Rattle.aq_term.specs.declared.term.Term.{Term}
use Rattle.aq_term.specs.PlainOf.{plain}

variables-push : (ts : List Plain) (t : Plain) → variables_of_all (plains (ts ++ t ∷ [])) ≡ variables_of_all (plains ts) ++ variables t
variables-push [] t = append-nil (variables t)
variables-push (u ∷ us) t = rw (variables-push us t, append_assoc) refl

-- one more term behind the first ones
pub noted-take-suc : (vs : List ℕ) (ts : List Term) (i : ℕ) (t : Term) → i < length ts → t ≡ get_or ts i t
    → (vs ++ variables_of_all (plains (map plain (take i ts)))) ++ variables (plain t)
    ≡ vs ++ variables_of_all (plains (map plain (take (i + 1) ts)))
noted-take-suc vs ts i t h e =
    rw (map-take-suc ts i t h e, variables-push (map plain (take i ts)) (plain t), append_assoc) refl
