-- Lemmas for crates that go over the arguments of a term.
use Rattle.std.proofs.Common.{◌+◌, ◌++◌, take, ap, sym, ◌∙◌, ◌≡◌, ℕ, ◌<◌, ◌≤◌, List, [], ◌∷◌, length, map, get_or, suc, zero, arith}
use Rattle.std.proofs.lemmas.List.{map-append, take_more}
use Rattle.term_meaning.specs.Plain.{nodes, nodes_of_all, plains}
use Rattle.aq_term.specs.declared.term.Term.{Term}
use Rattle.aq_term.specs.PlainOf.{plain}

-- one of the terms has at most as many nodes as all of them
pub nodes_le-all : (ts : List Term) (i : ℕ) (t : Term) → i < length ts → t ≡ get_or ts i t → nodes (plain t) ≤ nodes_of_all (plains (map plain ts))
nodes_le-all [] i t h e = absurd (omega arith)
nodes_le-all (u ∷ us) zero t h e = rw e (omega arith)
nodes_le-all (u ∷ us) (suc i) t h e = omega (arith, nodes_le-all us i t (omega arith) e)

-- the first terms of a list, and one more
pub map-take-suc : (ts : List Term) (i : ℕ) (t : Term) → i < length ts → t ≡ get_or ts i t → map plain (take (i + 1) ts) ≡ map plain (take i ts) ++ plain t ∷ []
map-take-suc ts i t h e =
    ap (map plain) (take_more ts i t h) ∙ map-append plain (take i ts) (get_or ts i t ∷ [])
    ∙ ap (λ (u : Term). map plain (take i ts) ++ plain u ∷ []) (sym e)
