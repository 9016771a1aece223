-- A term of a list has no more nodes than the list.
use Rattle.std.proofs.Common.{ℕ, ◌≡◌, ◌+◌, ◌<◌, ◌≤◌, zero, suc, List, [], ◌∷◌, length, map, get_or, sym, subst, arith}
use Rattle.term_meaning.specs.Plain.{Plain, nodes, nodes_of_all, plains}
use Rattle.aq_term.specs.PlainOf.{plain}
use Rattle.aq_term.specs.declared.term.Term.{Term}

-- the term at a place
pub element_nodes : (ts : List Term) (i : ℕ) (d : Term) → i < length ts →
    nodes (plain (get_or ts i d)) ≤ nodes_of_all (plains (map plain ts))
element_nodes [] i d h = absurd (omega (arith, h))
element_nodes (t ∷ ts) zero d h = omega arith
element_nodes (t ∷ ts) (suc i) d h = let below : i < length ts = omega arith in omega (arith, element_nodes ts i d below)

-- an argument that was read off a list of arguments has fewer nodes than the compound
pub argument_falls : (ts : List Term) (us : List Plain) (i : ℕ) (t : Term) → map plain ts ≡ us → i < length ts →
    t ≡ get_or ts i t → nodes (plain t) < nodes_of_all (plains us) + 1
argument_falls ts us i t e h is =
    let below : nodes (plain (get_or ts i t)) ≤ nodes_of_all (plains (map plain ts)) = element_nodes ts i t h in
    let P : Term → Type 0 = λ u. nodes (plain u) ≤ nodes_of_all (plains (map plain ts)) in
    let here : nodes (plain t) ≤ nodes_of_all (plains (map plain ts)) = subst P (sym is) below in
    let Q : List Plain → Type 0 = λ vs. nodes (plain t) ≤ nodes_of_all (plains vs) in
    let there : nodes (plain t) ≤ nodes_of_all (plains us) = subst Q e here in
    omega arith
