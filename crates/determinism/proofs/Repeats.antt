-- Keys that are there and differ, by their places.
use Rattle.std.proofs.Common.{◌≡◌, ℕ, zero, suc, ◌<◌, Bool, true, false, List, [], ◌∷◌, ◌++◌, Option, None, Some, length, take, get_or, refl, sym, ap, subst, ◌∙◌, arith}
use Rattle.std.specs.Prelude.{◌&&◌, ◌||◌, not, cond, ◌==◌}
use Rattle.std.specs.Cmp.{nat_eq_equiv, int_eq_equiv}
use Rattle.std.specs.List.{list_any}
use Rattle.determinism.specs.declared.key.Key.{Key}
use Rattle.determinism.specs.declared.key.Key.TheVariants as key
use Rattle.determinism.specs.Distinct.{same_key, is_same, are_distinct}
use Rattle.determinism.specs.Entries.{entry_of, same_entry}

with_true : (b : Bool) → (b && true) ≡ b
with_true true = refl
with_true false = refl

-- an entry tells which key it is
pub same_entries : (a b : Key) → same_entry (entry_of a) (entry_of b) ≡ same_key a b
same_entries (key.Int a) (key.Int b) = refl
same_entries (key.Int a) (key.Atom b) = refl
same_entries (key.Int a) (key.Functor b) = refl
same_entries (key.Atom a) (key.Int b) = refl
same_entries (key.Atom a) (key.Atom b) = with_true (a.number == b.number)
same_entries (key.Atom a) (key.Functor b) = refl
same_entries (key.Functor a) (key.Int b) = refl
same_entries (key.Functor a) (key.Atom b) = refl
same_entries (key.Functor a) (key.Functor b) = with_true ((a.arity == b.arity) && (a.name.number == b.name.number))

same_turned : (a b : Key) → same_key a b ≡ same_key b a
same_turned (key.Int a) (key.Int b) = int_eq_equiv.symm a b
same_turned (key.Int a) (key.Atom b) = refl
same_turned (key.Int a) (key.Functor b) = refl
same_turned (key.Atom a) (key.Int b) = refl
same_turned (key.Atom a) (key.Atom b) = nat_eq_equiv.symm a.number b.number
same_turned (key.Atom a) (key.Functor b) = refl
same_turned (key.Functor a) (key.Int b) = refl
same_turned (key.Functor a) (key.Atom b) = refl
same_turned (key.Functor a) (key.Functor b) =
    rw (nat_eq_equiv.symm a.arity b.arity, nat_eq_equiv.symm a.name.number b.name.number) refl

and_false : (b : Bool) → (b && false) ≡ false
and_false true = refl
and_false false = refl

-- a place without a key
pub none_distinct : (ks : List (Option Key)) (i : ℕ) (d : Option Key) → i < length ks → get_or ks i d ≡ None → are_distinct ks ≡ false
none_distinct [] i d h e = absurd (omega (arith, h))
none_distinct (None ∷ ks) i d h e = refl
none_distinct (Some a ∷ ks) zero d h e = absurd (let no : ⊥ = cc in no)
none_distinct (Some a ∷ ks) (suc i) d h e =
    rw (none_distinct ks i d (omega (arith, h)) e) (and_false (not (list_any (is_same a) ks)))

-- what is so of the item at a place is so of some item
any_at : (test : Option Key → Bool) (ks : List (Option Key)) (i : ℕ) (d : Option Key) → i < length ks → test (get_or ks i d) ≡ true
    → list_any test ks ≡ true
any_at test [] i d h e = absurd (omega (arith, h))
any_at test (k ∷ ks) zero d h e = rw e refl
any_at test (k ∷ ks) (suc i) d h e =
    let rest = any_at test ks i d (omega (arith, h)) e in
    elim (test k) as (λ b. (b || list_any test ks) ≡ true) [ true ↦ refl | false ↦ rest ]

or_false : (a b : Bool) → (a || b) ≡ false → (a ≡ false) × (b ≡ false)
or_false true b e = absurd (let no : ⊥ = cc in no)
or_false false b e = (refl, e)

-- the same behind a first key, by whether it is that one
repeated_behind : (b : Bool) (a : Key) (ks : List (Option Key)) (i : ℕ) (d : Option Key) (k : Key) → i < length ks → get_or ks i d ≡ Some k
    → same_key a k ≡ b → (b || list_any (is_same k) (take i ks)) ≡ true → (list_any (is_same k) (take i ks) ≡ true → are_distinct ks ≡ false)
    → are_distinct (Some a ∷ ks) ≡ false
repeated_behind true a ks i d k h e same before rest =
    let here : is_same a (get_or ks i d) ≡ true = rw e (same_turned k a ∙ same) in
    let found : list_any (is_same a) ks ≡ true = any_at (is_same a) ks i d h here in
    rw found refl
repeated_behind false a ks i d k h e other before rest = rw (rest before) (and_false (not (list_any (is_same a) ks)))

-- a place with a key that stands before it
pub repeated_distinct : (ks : List (Option Key)) (i : ℕ) (d : Option Key) (k : Key) → i < length ks → get_or ks i d ≡ Some k
    → list_any (is_same k) (take i ks) ≡ true → are_distinct ks ≡ false
repeated_distinct [] i d k h e before = absurd (omega (arith, h))
repeated_distinct (None ∷ ks) i d k h e before = refl
repeated_distinct (Some a ∷ ks) zero d k h e before = absurd (let no : ⊥ = cc in no)
repeated_distinct (Some a ∷ ks) (suc i) d k h e before =
    let inside : i < length ks = omega (arith, h) in
    repeated_behind (same_key a k) a ks i d k inside e refl before (λ earlier. repeated_distinct ks i d k inside e earlier)

any_pushed : (test : Option Key → Bool) (ks : List (Option Key)) (k : Option Key) → list_any test ks ≡ false → test k ≡ false
    → list_any test (ks ++ k ∷ []) ≡ false
any_pushed test [] k none last = rw last refl
any_pushed test (x ∷ ks) k none last =
    let parts = or_false (test x) (list_any test ks) none in rw (parts.0, any_pushed test ks k parts.1 last) refl

and_true : (a b : Bool) → (a && b) ≡ true → (a ≡ true) × (b ≡ true)
and_true true b e = (refl, e)
and_true false b e = absurd (let no : ⊥ = cc in no)

pub not_true : (a : Bool) → not a ≡ true → a ≡ false
not_true true e = absurd (let no : ⊥ = cc in no)
not_true false e = refl

-- one more key that stands nowhere before
pub pushed_distinct : (ks : List (Option Key)) (k : Key) → are_distinct ks ≡ true → list_any (is_same k) ks ≡ false
    → are_distinct (ks ++ Some k ∷ []) ≡ true
pushed_distinct [] k distinct none = refl
pushed_distinct (None ∷ ks) k distinct none = absurd (let no : ⊥ = cc in no)
pushed_distinct (Some a ∷ ks) k distinct none =
    let parts = and_true (not (list_any (is_same a) ks)) (are_distinct ks) distinct in
    let other = or_false (same_key a k) (list_any (is_same k) ks) none in
    let apart : same_key k a ≡ false = same_turned k a ∙ other.0 in
    rw (any_pushed (is_same a) ks (Some k) (not_true (list_any (is_same a) ks) parts.0) apart, pushed_distinct ks k parts.1 other.1) refl

pub not_false : (a : Bool) → not a ≡ false → a ≡ true
not_false true e = refl
not_false false e = absurd (let no : ⊥ = cc in no)

pub any_more : (test : Option Key → Bool) (ks : List (Option Key)) (k : Option Key) → list_any test (ks ++ k ∷ []) ≡ (list_any test ks || test k)
any_more test [] k = elim (test k) as (λ b. (b || false) ≡ b) [ true ↦ refl | false ↦ refl ]
any_more test (x ∷ ks) k =
    elim (test x) as (λ b. (b || list_any test (ks ++ k ∷ [])) ≡ ((b || list_any test ks) || test k)) [ true ↦ refl | false ↦ any_more test ks k ]

pub found_now : (here before : Bool) → cond here true before ≡ (before || here)
found_now true true = refl
found_now true false = refl
found_now false true = refl
found_now false false = refl
