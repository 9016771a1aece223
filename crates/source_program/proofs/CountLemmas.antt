-- Counting the variables of a query, and the first argument that its mode refuses.
use Rattle.std.proofs.Common.{ℕ, ◌≡◌, ◌≢◌, ◌+◌, ◌<◌, ◌≤◌, ◌⊎◌, inl, inr, suc, Bool, true, false, cond, nat_eq, List, [], ◌∷◌, ◌++◌, Option, Some, None, Result, Ok, Err, IfOk, slice_get, length, map, take, get_or, set, replicate, refl, ap, sym, ◌∙◌, subst, append_assoc, arith}
use Rattle.std.specs.Prelude.{All}
use Rattle.std.proofs.lemmas.Bool.Decides.{nat_tests}
use Rattle.std.proofs.lemmas.List.{append-nil, length-set, length-replicate, get_or-replicate, get_or-set_same, get_or-set_other}
use Rattle.aq_term.proofs.Callers.{map-take-suc}
use Rattle.aq_term.specs.PlainOf.{plain, capped}
use Rattle.aq_term.specs.declared.entry.Entry.{Entry}
use Rattle.aq_term.specs.declared.mode.Mode.{Mode}
use Rattle.aq_term.specs.declared.mode.Mode.TheVariants as mode
use Rattle.aq_term.specs.declared.term.Term.{Term}
use Rattle.term_meaning.specs.Plain.{Plain, variable, integer, atom, compound, items, plains, variables, variables_of_all}
use Rattle.source_program.specs.declared.query_entry.EntryFault.{EntryFault}
use Rattle.source_program.specs.Modes.{counted, first_refused, is_taken, occurrences, refused_argument, stands_once, IsRefusedAt, IsRefusedCall, IsTakenBy, IsTakenCall}

pub counted-append : (vs ws counts : List ℕ) → counted (vs ++ ws) counts ≡ counted ws (counted vs counts)
counted-append [] ws counts = refl
counted-append (v ∷ vs) ws counts = counted-append vs ws (set counts v (capped (get_or counts v 0 + 1)))

variables-push : (ts : List Plain) (t : Plain) → variables_of_all (plains (ts ++ t ∷ [])) ≡ variables_of_all (plains ts) ++ variables t
variables-push [] t = append-nil (variables t)
variables-push (u ∷ us) t =
    ap (λ (l : List ℕ). variables u ++ l) (variables-push us t) ∙ sym (append_assoc (variables u) (variables_of_all (plains us)) (variables t))

-- the first terms, and one more
pub counted-take-suc : (ts : List Term) (i : ℕ) (t : Term) (counts now : List ℕ) → i < length ts → t ≡ get_or ts i t →
    now ≡ counted (variables_of_all (plains (map plain (take i ts)))) counts →
    counted (variables (plain t)) now ≡ counted (variables_of_all (plains (map plain (take (i + 1) ts)))) counts
counted-take-suc ts i t counts now h e is =
    ap (counted (variables (plain t))) is
    ∙ sym (counted-append (variables_of_all (plains (map plain (take i ts)))) (variables (plain t)) counts)
    ∙ ap (λ (vs : List ℕ). counted vs counts) (sym (variables-push (map plain (take i ts)) (plain t)))
    ∙ ap (λ (us : List Plain). counted (variables_of_all (plains us)) counts) (sym (map-take-suc ts i t h e))

-- no argument is left, or no mode
pub none_refused : (single : ℕ → Bool) (before : ℕ) (ms : List Mode) (ts : List Term) → (length ts ≡ 0) ⊎ (length ms ≡ 0) →
    first_refused single before ms (map plain ts) ≡ None
none_refused single before [] ts h = refl
none_refused single before (m ∷ ms) [] h = refl
none_refused single before (m ∷ ms) (t ∷ ts) (inl e) = absurd (omega (arith, e))
none_refused single before (m ∷ ms) (t ∷ ts) (inr e) = absurd (omega (arith, e))

-- the count of a variable among these
count_of : (vs counts : List ℕ) (v : ℕ) → v < length counts → get_or counts v 0 ≤ 18446744073709551615 →
    get_or (counted vs counts) v 0 ≡ capped (get_or counts v 0 + occurrences v vs)
count_of [] counts v below small = omega (arith, small)
count_of (w ∷ vs) counts v below small =
    let counts' : List ℕ = set counts w (capped (get_or counts w 0 + 1)) in
    let case : (b : Bool) → nat_eq v w ≡ b → get_or (counted vs counts') v 0 ≡ capped (get_or counts v 0 + (cond b 1 0 + occurrences v vs)) =
    λ b. elim b as (λ u. nat_eq v w ≡ u → get_or (counted vs counts') v 0 ≡ capped (get_or counts v 0 + (cond u 1 0 + occurrences v vs))) [
      | true ↦ λ e.
          let same : v ≡ w = grind (arith, nat_tests, e) in
          let here : get_or counts' v 0 ≡ capped (get_or counts v 0 + 1) =
          subst (λ (u : ℕ). get_or (set counts u (capped (get_or counts u 0 + 1))) v 0 ≡ capped (get_or counts v 0 + 1)) same
          (get_or-set_same counts v (capped (get_or counts v 0 + 1)) 0 below) in
          omega (arith, here, count_of vs counts' v (omega (arith, length-set counts w (capped (get_or counts w 0 + 1)), below)) (omega (arith, here)))
      | false ↦ λ e.
          let other : v ≢ w = λ s. grind (arith, nat_tests, e, s) in
          let here : get_or counts' v 0 ≡ get_or counts v 0 = get_or-set_other counts w v (capped (get_or counts w 0 + 1)) 0 other in
          omega (arith, here, count_of vs counts' v (omega (arith, length-set counts w (capped (get_or counts w 0 + 1)), below)) (omega (arith, here, small)))
    ] in
    case (nat_eq v w) refl

capped_one : (k : ℕ) → nat_eq (capped k) 1 ≡ nat_eq k 1
capped_one k = grind (arith, nat_tests)

-- a variable is counted once where it stands once
single_is : (vs : List ℕ) (n v : ℕ) → v < n → nat_eq (get_or (counted vs (replicate n 0)) v 0) 1 ≡ stands_once vs v
single_is vs n v below =
    let none : List ℕ = replicate n 0 in
    let long : length none ≡ n = length-replicate {A = ℕ} n 0 in
    let zero_there : get_or none v 0 ≡ 0 = get_or-replicate {A = ℕ} n v 0 0 below in
    let count : get_or (counted vs none) v 0 ≡ capped (get_or none v 0 + occurrences v vs) =
    count_of vs none v (omega (arith, long, below)) (omega (arith, zero_there)) in
    let alone : get_or (counted vs none) v 0 ≡ capped (occurrences v vs) = omega (arith, count, zero_there) in
    ap (λ (k : ℕ). nat_eq k 1) alone ∙ capped_one (occurrences v vs)

-- each number of a list is below n
abbrev AllUnder : ℕ → List ℕ → Type 0
AllUnder n [] = Unit {0}
AllUnder n (v ∷ vs) = (v < n) × AllUnder n vs

all_under : (n : ℕ) (vs : List ℕ) → All (λ v. v < n) vs → AllUnder n vs
all_under n [] h = tt
all_under n (v ∷ vs) h = (h 0 0 (omega arith), all_under n vs (λ k d below. h (suc k) d (omega (arith, below))))

under_left : (n : ℕ) (vs ws : List ℕ) → AllUnder n (vs ++ ws) → AllUnder n vs
under_left n [] ws h = tt
under_left n (v ∷ vs) ws h = (h.0, under_left n vs ws h.1)

under_right : (n : ℕ) (vs ws : List ℕ) → AllUnder n (vs ++ ws) → AllUnder n ws
under_right n [] ws h = h
under_right n (v ∷ vs) ws h = under_right n vs ws h.1

same_taken : (p q : ℕ → Bool) (n : ℕ) (m : Mode) (t : Plain) → ((v : ℕ) → v < n → p v ≡ q v) → AllUnder n (variables t) → is_taken p m t ≡ is_taken q m t
same_taken p q n mode.Ground t agree h = refl
same_taken p q n mode.Nonvar t agree h = refl
same_taken p q n mode.Out (variable v) agree h = agree v h.0
same_taken p q n mode.Out (integer z) agree h = refl
same_taken p q n mode.Out (atom a) agree h = refl
same_taken p q n mode.Out (compound a ts) agree h = refl
same_taken p q n mode.Any t agree h = refl

same_refused : (p q : ℕ → Bool) (n before : ℕ) (ms : List Mode) (ts : List Plain) → ((v : ℕ) → v < n → p v ≡ q v) →
    AllUnder n (variables_of_all (plains ts)) → first_refused p before ms ts ≡ first_refused q before ms ts
same_refused p q n before [] ts agree h = refl
same_refused p q n before (m ∷ ms) [] agree h = refl
same_refused p q n before (m ∷ ms) (t ∷ ts) agree h =
    ap (λ (b : Bool). cond b (first_refused p (before + 1) ms ts) (Some (before + 1)))
    (same_taken p q n m t agree (under_left n (variables t) (variables_of_all (plains ts)) h))
    ∙ ap (λ (o : Option ℕ). cond (is_taken q m t) o (Some (before + 1)))
    (same_refused p q n (before + 1) ms ts agree (under_right n (variables t) (variables_of_all (plains ts)) h))

-- the first argument refused by the counts is the first refused
pub refused_by_counts : (n : ℕ) (counts : List ℕ) (ms : List Mode) (ts : List Plain) →
    counts ≡ counted (variables_of_all (plains ts)) (replicate n 0) → All (λ v. v < n) (variables_of_all (plains ts)) →
    first_refused (λ v. nat_eq (get_or counts v 0) 1) 0 ms ts ≡ first_refused (stands_once (variables_of_all (plains ts))) 0 ms ts
refused_by_counts n counts ms ts is named =
    same_refused (λ v. nat_eq (get_or counts v 0) 1) (stands_once (variables_of_all (plains ts))) n 0 ms ts
    (λ v below. ap (λ (l : List ℕ). nat_eq (get_or l v 0) 1) is ∙ single_is (variables_of_all (plains ts)) n v below)
    (all_under n (variables_of_all (plains ts)) named)

items_of : (ts : List Plain) → items (plains ts) ≡ ts
items_of [] = refl
items_of (t ∷ ts) = ap (λ (us : List Plain). t ∷ us) (items_of ts)

-- the arguments of a compound are those that it was made of
pub refused_of_compound : (name : ℕ) (ms : List Mode) (ts : List Plain) →
    first_refused (stands_once (variables_of_all (plains ts))) 0 ms ts ≡ refused_argument ms (compound name (plains ts))
refused_of_compound name ms ts = ap (first_refused (stands_once (variables_of_all (plains ts))) 0 ms) (sym (items_of ts))

-- the same of what an entry takes or refuses
pub taken_compound : (name : ℕ) (ts : List Plain) (e : Entry) → IsTakenCall name ts e → IsTakenBy (compound name (plains ts)) e
taken_compound name ts e h = ((h.0, ap length (items_of ts) ∙ h.1), sym (refused_of_compound name e.modes ts) ∙ h.2)

pub refused_compound : (name argument : ℕ) (ts : List Plain) (es : List Entry) →
    ((place : ℕ) × (e : Entry) × (slice_get es place ≡ Some e) × IsRefusedCall name ts e argument) →
    IsRefusedAt (compound name (plains ts)) es argument
refused_compound name argument ts es h =
    (h.0, h.1, h.2, (h.3.0, ap length (items_of ts) ∙ h.3.1), sym (refused_of_compound name h.1.modes ts) ∙ h.3.2)

-- and of the answer
pub answer_compound : (r : Result ℕ EntryFault) (name : ℕ) (ts : List Plain) (es : List Entry) →
    IfOk r (λ place. (e : Entry) × (slice_get es place ≡ Some e) × IsTakenCall name ts e) →
    IfOk r (λ place. (e : Entry) × (slice_get es place ≡ Some e) × IsTakenBy (compound name (plains ts)) e)
answer_compound (Ok place) name ts es h = (h.0, h.1, taken_compound name ts h.0 h.2)
answer_compound (Err f) name ts es h = tt
