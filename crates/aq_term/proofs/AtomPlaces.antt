-- Where a name stands in a table, from what is known of the keys that hold the texts.
use Rattle.std.proofs.Common.{◌≡◌, ℕ, ◌+◌, suc, List, [], ◌∷◌, ◌++◌, ◌||◌, not, Bool, true, false, cond, Some, None, length, map, slice_get, refl, ap, sym, ◌∙◌, add-one, arith}
use Rattle.std.proofs.lemmas.List.{map-append}
use Rattle.std.proofs.lemmas.Slice.Eq.{bytes_eq-Decides}
use Rattle.std.specs.List.{list_any, position, position_or_len}
use Rattle.std.specs.Str.{bytes_eq}
use Rattle.indexmap.specs.IndexSet.{insert_key}
use Rattle.aq_term.specs.Atoms.{place_of, with_text}

found_at : (b : Bool) (q x : List ℕ) (xs : List (List ℕ)) → (b ≡ true → q ≡ x)
    → (list_any (bytes_eq q) xs ≡ true → slice_get xs (place_of xs q) ≡ Some q)
    → (b || list_any (bytes_eq q) xs) ≡ true → slice_get (x ∷ xs) (cond (not b) (1 + place_of xs q) 0) ≡ Some q
found_at true q x xs same rest h = ap (λ (y : List ℕ). Some y) (sym (same refl))
found_at false q x xs same rest h = let next : 1 + place_of xs q ≡ suc (place_of xs q) = omega arith in rw next (rest h)

-- a name that is there stands at its place
found : (q : List ℕ) (xs : List (List ℕ)) → list_any (bytes_eq q) xs ≡ true → slice_get xs (place_of xs q) ≡ Some q
found q [] h = cc
found q (x ∷ xs) h = found_at (bytes_eq q x) q x xs (bytes_eq-Decides q x).0 (found q xs) h

missing_at : (b : Bool) (p n : ℕ) (a : Bool) → (a ≡ false → p ≡ n) → (b || a) ≡ false → cond (not b) (1 + p) 0 ≡ n + 1
missing_at true p n a rest h = cc
missing_at false p n a rest h = let e : p ≡ n = rest h in omega (arith, e)

-- the place of a name that is not there
missing : (q : List ℕ) (xs : List (List ℕ)) → list_any (bytes_eq q) xs ≡ false → place_of xs q ≡ length xs
missing q [] h = refl
missing q (x ∷ xs) h = missing_at (bytes_eq q x) (place_of xs q) (length xs) (list_any (bytes_eq q) xs) (missing q xs) h ∙ add-one (length xs)

last_of : (xs : List (List ℕ)) (y : List ℕ) → slice_get (xs ++ y ∷ []) (length xs) ≡ Some y
last_of [] y = refl
last_of (x ∷ xs) y = last_of xs y

some_place : (b : Bool) (p i : ℕ) → Some i ≡ cond b (Some p) None → i ≡ p
some_place true p i e = cc
some_place false p i e = cc

module _ {K : Type 0} (text : K → List ℕ) (q : List ℕ) where
  places : (ks : List K) → position_or_len (λ k. bytes_eq q (text k)) ks ≡ place_of (map text ks) q
  places [] = refl
  places (k ∷ ks) = rw (places ks) refl

  members : (ks : List K) → list_any (λ k. bytes_eq q (text k)) ks ≡ list_any (bytes_eq q) (map text ks)
  members [] = refl
  members (k ∷ ks) = rw (members ks) refl

  -- of a name that is there
  pub known-place : (ks : List K) (i : ℕ) → Some i ≡ position (λ k. bytes_eq q (text k)) ks → i ≡ place_of (map text ks) q
  known-place ks i e = some_place _ _ i e ∙ places ks

  pub known-table : (ks : List K) → true ≡ list_any (λ k. bytes_eq q (text k)) ks → map text ks ≡ with_text (map text ks) q
  known-table ks h = rw (← members ks, ← h) refl

  pub known-there : (ks : List K) (i : ℕ) → true ≡ list_any (λ k. bytes_eq q (text k)) ks → Some i ≡ position (λ k. bytes_eq q (text k)) ks
      → slice_get (map text ks) i ≡ Some q
  known-there ks i h e = rw (known-place ks i e) (found q (map text ks) (sym (members ks) ∙ sym h))

  -- of a name that is added
  pub new-table : (ks : List K) (w : K) → text w ≡ q → false ≡ list_any (λ k. bytes_eq q (text k)) ks
      → map text (insert_key (λ a b. bytes_eq (text a) (text b)) ks w) ≡ with_text (map text ks) q
  new-table ks w is h =
      rw (is, ← members ks, ← h, map-append text ks (w ∷ []), is) refl

  pub new-place : (ks : List K) (w : K) (i : ℕ) → text w ≡ q → i ≡ position_or_len (λ k. bytes_eq (text w) (text k)) ks → i ≡ place_of (map text ks) q
  new-place ks w i is e = e ∙ rw is (places ks)

  pub new-there : (ks : List K) (i : ℕ) → false ≡ list_any (λ k. bytes_eq q (text k)) ks → i ≡ place_of (map text ks) q
      → slice_get (with_text (map text ks) q) i ≡ Some q
  new-there ks i h e =
      rw (e, missing q (map text ks) (sym (members ks) ∙ sym h), ← members ks, ← h) (last_of (map text ks) q)
