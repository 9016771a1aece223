-- What a term more at the end of a list adds to what is counted over the list.
use Rattle.std.proofs.Common.{◌≡◌, ℕ, ◌+◌, max, List, [], ◌∷◌, ◌++◌, ◌&&◌, ◌<◌, true, false, length, map, take, drop, get_or, refl, ap, sym, ◌∙◌, arith}
use Rattle.std.proofs.lemmas.List.{take-append-drop}
use Rattle.std.proofs.lemmas.List.{map-append}
use Rattle.std.proofs.Math.Bool.{and_assoc, and-false}
use Rattle.term_meaning.specs.Plain.{Plain, plains, nodes, nodes_of_all, depth, depth_of_all, is_ground, are_ground}
use Rattle.aq_term.proofs.Callers.{map-take-suc}
use Rattle.aq_term.specs.declared.term.Term.{Term}
use Rattle.aq_term.specs.PlainOf.{plain}

nodes_of_all-push : (ts : List Plain) (t : Plain) → nodes_of_all (plains (ts ++ t ∷ [])) ≡ nodes_of_all (plains ts) + nodes t
nodes_of_all-push [] t = omega arith
nodes_of_all-push (u ∷ us) t = omega (arith, nodes_of_all-push us t)

depth_of_all-push : (ts : List Plain) (t : Plain) → depth_of_all (plains (ts ++ t ∷ [])) ≡ max (depth_of_all (plains ts)) (depth t)
depth_of_all-push [] t = omega arith
depth_of_all-push (u ∷ us) t = omega (arith, depth_of_all-push us t)

are_ground-append : (ts us : List Plain) → are_ground (plains (ts ++ us)) ≡ (are_ground (plains ts) && are_ground (plains us))
are_ground-append [] us = refl
are_ground-append (t ∷ ts) us = rw (are_ground-append ts us, and_assoc) refl

pub nodes-take-suc : (ts : List Term) (i : ℕ) (t : Term) → i < length ts → t ≡ get_or ts i t
    → nodes_of_all (plains (map plain (take (i + 1) ts))) ≡ nodes_of_all (plains (map plain (take i ts))) + nodes (plain t)
nodes-take-suc ts i t h e = rw (map-take-suc ts i t h e) (nodes_of_all-push (map plain (take i ts)) (plain t))

pub depth-take-suc : (ts : List Term) (i : ℕ) (t : Term) → i < length ts → t ≡ get_or ts i t
    → depth_of_all (plains (map plain (take (i + 1) ts))) ≡ max (depth_of_all (plains (map plain (take i ts)))) (depth (plain t))
depth-take-suc ts i t h e = rw (map-take-suc ts i t h e) (depth_of_all-push (map plain (take i ts)) (plain t))

pub are_ground-take-suc : (ts : List Term) (i : ℕ) (t : Term) → i < length ts → t ≡ get_or ts i t → is_ground (plain t) ≡ true
    → are_ground (plains (map plain (take i ts))) ≡ true → are_ground (plains (map plain (take (i + 1) ts))) ≡ true
are_ground-take-suc ts i t h e is before =
    rw (map-take-suc ts i t h e, are_ground-append (map plain (take i ts)) (plain t ∷ []), before, is) refl

-- a list with a term that is not ground
pub are_ground-some_false : (ts : List Term) (i : ℕ) (t : Term) → i < length ts → t ≡ get_or ts i t → is_ground (plain t) ≡ false
    → are_ground (plains (map plain ts)) ≡ false
are_ground-some_false ts i t h e is =
    let halves : map plain (take (i + 1) ts) ++ map plain (drop (i + 1) ts) ≡ map plain ts =
    sym (map-append plain (take (i + 1) ts) (drop (i + 1) ts)) ∙ ap (map plain) (take-append-drop (i + 1) ts) in
    let first : are_ground (plains (map plain (take (i + 1) ts))) ≡ false =
    rw (map-take-suc ts i t h e, are_ground-append (map plain (take i ts)) (plain t ∷ []), is, and-false) refl in
    rw (← halves, are_ground-append (map plain (take (i + 1) ts)) (map plain (drop (i + 1) ts)), first) refl
