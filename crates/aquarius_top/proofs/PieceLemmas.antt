-- The bytes of pieces as more of them are taken.
use Rattle.std.proofs.Common.{◌≡◌, ℕ, suc, ◌+◌, ◌<◌, ◌≤◌, List, [], ◌∷◌, ◌++◌, Option, length, take, drop, get_or, drop-cons, refl, sym, ap, subst, ◌∙◌, append_assoc, append-nil, length-append, arith}
use Rattle.std.specs.Borrow.{Bor}
use Rattle.std.specs.Io.KnownBytes.{Appends}
use Rattle.std.proofs.lemmas.List.{take-append-le, take-append-drop, take_more}
use Rattle.aq_base.proofs.KnownBytes.{Appends-more}
use Rattle.aquarius_top.specs.Ending.{joined}

pub joined-append : (front rest : List (Bor (List ℕ))) → joined (front ++ rest) ≡ joined front ++ joined rest
joined-append [] rest = refl
joined-append (piece ∷ front) rest =
    ap (λ (bytes : List ℕ). piece.now ++ bytes) (joined-append front rest) ∙ sym (append_assoc piece.now (joined front) (joined rest))

take-past : (xs ys : List ℕ) (n : ℕ) → take (length xs + n) (xs ++ ys) ≡ xs ++ take n ys
take-past [] ys n = let none : 0 + n ≡ n = omega arith in rw none refl
take-past (x ∷ xs) ys n =
    let one_more : suc (length xs) + n ≡ suc (length xs + n) = omega arith in
    rw one_more (ap (λ (l : List ℕ). x ∷ l) (take-past xs ys n))

-- a part of what comes next, behind what is there
pub front_taken : (a b c : Option (List ℕ)) (front next rest : List ℕ) (n : ℕ) → n ≤ length next → Appends a b front
    → Appends b c (take n next) → (m : ℕ) × (m ≤ length (front ++ (next ++ rest))) × Appends a c (take m (front ++ (next ++ rest)))
front_taken a b c front next rest n within first second =
    let bytes : take (length front + n) (front ++ (next ++ rest)) ≡ front ++ take n next =
    take-past front (next ++ rest) n ∙ ap (λ (l : List ℕ). front ++ l) (take-append-le n next rest within) in
    let lengths : length (front ++ (next ++ rest)) ≡ length front + (length next + length rest) =
    length-append front (next ++ rest) ∙ ap (λ (m : ℕ). length front + m) (length-append next rest) in (
      length front + n,
      omega (arith, lengths),
      subst (Appends a c) (sym bytes) (Appends-more a b c front (take n next) first second),
    )

pub piece_more : (pieces : List (Bor (List ℕ))) (k : ℕ) (piece : Bor (List ℕ)) → k < length pieces
    → joined (take (k + 1) pieces) ≡ joined (take k pieces) ++ (get_or pieces k piece).now
piece_more pieces k piece there =
    ap joined (take_more pieces k piece there) ∙ joined-append (take k pieces) (get_or pieces k piece ∷ [])
    ∙ ap (λ (bytes : List ℕ). joined (take k pieces) ++ bytes) (append-nil (get_or pieces k piece).now)

drop_one_more : (pieces : List (Bor (List ℕ))) (k : ℕ) (piece : Bor (List ℕ)) → k < length pieces
    → drop k pieces ≡ get_or pieces k piece ∷ drop (k + 1) pieces
drop_one_more pieces k piece there =
    let on : suc k ≡ k + 1 = omega arith in
    drop-cons pieces k piece there ∙ ap (λ (n : ℕ). get_or pieces k piece ∷ drop n pieces) on

pub piece_between : (pieces : List (Bor (List ℕ))) (k : ℕ) (piece : Bor (List ℕ)) → k < length pieces
    → joined pieces ≡ joined (take k pieces) ++ ((get_or pieces k piece).now ++ joined (drop (k + 1) pieces))
piece_between pieces k piece there =
    ap joined (sym (take-append-drop k pieces)) ∙ joined-append (take k pieces) (drop k pieces)
    ∙ ap (λ (rest : List (Bor (List ℕ))). joined (take k pieces) ++ joined rest) (drop_one_more pieces k piece there)
