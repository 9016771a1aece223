-- Elements of lists by their index.
use Rattle.std.proofs.Common.{◌≡◌, ℕ, zero, suc, ◌+◌, ◌<◌, List, [], ◌∷◌, ◌++◌, length, set, take, drop, replicate, Some, None, refl, ap, arith, zero-add, sym, ◌∙◌}
use Rattle.std.specs.List.{slice_get}

pub slice_get-append_left : {A : Type 0} (xs ys : List A) (i : ℕ) (x : A) → slice_get xs i ≡ Some x → slice_get (xs ++ ys) i ≡ Some x
slice_get-append_left [] ys i x e = cc
slice_get-append_left (y ∷ xs) ys zero x e = e
slice_get-append_left (y ∷ xs) ys (suc i) x e = slice_get-append_left xs ys i x e

pub slice_get-append_right : {A : Type 0} (xs ys : List A) (i : ℕ) → slice_get (xs ++ ys) (length xs + i) ≡ slice_get ys i
slice_get-append_right [] ys i = ap (slice_get ys) (zero-add i)
slice_get-append_right (x ∷ xs) ys i =
    let e : suc (length xs) + i ≡ suc (length xs + i) = omega arith in
    rw e (slice_get-append_right xs ys i)

pub slice_get-take : {A : Type 0} (n : ℕ) (xs : List A) (i : ℕ) (x : A) → i < n → slice_get xs i ≡ Some x → slice_get (take n xs) i ≡ Some x
slice_get-take n [] i x below e = cc
slice_get-take zero (y ∷ xs) i x below e = absurd (omega arith)
slice_get-take (suc n) (y ∷ xs) zero x below e = e
slice_get-take (suc n) (y ∷ xs) (suc i) x below e = slice_get-take n xs i x (omega arith) e

pub take-append_length : {A : Type 0} (xs ys : List A) → take (length xs) (xs ++ ys) ≡ xs
take-append_length [] [] = refl
take-append_length [] (y ∷ ys) = refl
take-append_length (x ∷ xs) ys = ap (λ zs. x ∷ zs) (take-append_length xs ys)

-- an element behind a front of known length
pub slice_get-behind : {A : Type 0} (xs ys : List A) (n i at : ℕ) → length xs ≡ n → at ≡ n + i → slice_get (xs ++ ys) at ≡ slice_get ys i
slice_get-behind xs ys n i at long here =
    let e : at ≡ length xs + i = omega arith in
    rw e (slice_get-append_right xs ys i)

pub slice_get-replicate_none : {A : Type 0} (n i : ℕ) (x : A) → slice_get (replicate n None) i ≡ Some (Some x) → ⊥
slice_get-replicate_none zero i x e = cc
slice_get-replicate_none (suc n) zero x e = cc
slice_get-replicate_none (suc n) (suc i) x e = slice_get-replicate_none n i x e

pub drop-append_length : {A : Type 0} (xs ys : List A) → drop (length xs) (xs ++ ys) ≡ ys
drop-append_length [] [] = refl
drop-append_length [] (y ∷ ys) = refl
drop-append_length (x ∷ xs) ys = drop-append_length xs ys

slice_get-drop : {A : Type 0} (n i : ℕ) (xs : List A) (x : A) → slice_get xs (n + i) ≡ Some x → slice_get (drop n xs) i ≡ Some x
slice_get-drop zero i xs x e = ap (slice_get xs) (sym (zero-add i)) ∙ e
slice_get-drop (suc n) i [] x e = cc
slice_get-drop (suc n) i (y ∷ xs) x e =
    let next : suc n + i ≡ suc (n + i) = omega arith in
    slice_get-drop n i xs x (ap (slice_get (y ∷ xs)) (sym next) ∙ e)

written_one : {A : Type 0} (i : ℕ) (xs ys : List A) (x : A) → slice_get xs i ≡ Some x → i < length ys → set (take i xs ++ drop i ys) i x ≡ take (suc i) xs ++ drop (suc i) ys
written_one i [] ys x e below = cc
written_one i (y ∷ xs) [] x e below = absurd (omega arith)
written_one zero (y ∷ xs) (z ∷ ys) x e below = cc
written_one (suc i) (y ∷ xs) (z ∷ ys) x e below = ap (λ zs. y ∷ zs) (written_one i xs ys x e (omega arith))

-- one more element from an index on is written over the front of another list
pub written_next : {A : Type 0} (from i : ℕ) (xs ys now : List A) (x : A) → slice_get xs (from + i) ≡ Some x → i < length ys → now ≡ take i (drop from xs) ++ drop i ys → set now i x ≡ take (i + 1) (drop from xs) ++ drop (i + 1) ys
written_next from i xs ys now x e below is =
    let next : suc i ≡ i + 1 = omega arith in
    ap (λ zs. set zs i x) is ∙ written_one i (drop from xs) ys x (slice_get-drop from i xs x e) below ∙ ap (λ k. take k (drop from xs) ++ drop k ys) next
