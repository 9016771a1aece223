-- What facts can still rise where one of them rises.
use Rattle.std.proofs.Common.{◌≡◌, ℕ, ◌+◌, ◌<◌, ◌≤◌, List, Bool, length, map, set, get_or, refl, arith}
use Rattle.std.proofs.lemmas.List.Sums.{sum_by-set}
use Rattle.std.proofs.Math.Seq.{map-set_same}
use Rattle.flow_equations.specs.declared.predicate_facts.PredicateFacts.{PredicateFacts}
use Rattle.flow_equations.specs.PredicateRises.{rises_of_predicate, rises_of_all}
use Rattle.flow_equations.specs.Rises.{one_where}
use Rattle.flow_equations.specs.Shape.{shape_of}

pub rises-set : (ps : List PredicateFacts) (i : ℕ) (p q : PredicateFacts) (rose : Bool) → i < length ps → p ≡ get_or ps i p
    → rises_of_predicate q + one_where rose ≤ rises_of_predicate p
    → rises_of_all (set ps i q) + one_where rose ≤ rises_of_all ps
rises-set ps i p q rose h is less =
    let total = sum_by-set rises_of_predicate ps i q p h in
    let same : rises_of_predicate (get_or ps i p) ≡ rises_of_predicate p = rw (← is) refl in
    omega (arith, total, same, less)

pub shapes-set : (ps : List PredicateFacts) (i : ℕ) (p q : PredicateFacts) → p ≡ get_or ps i p
    → shape_of q ≡ shape_of p → map shape_of (set ps i q) ≡ map shape_of ps
shapes-set ps i p q is same = map-set_same shape_of ps i q p (rw (← is) same)
