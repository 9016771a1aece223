-- Numbers that are written, and their most.
use Rattle.std.proofs.Common.{◌≡◌, ◌≢◌, ℕ, ◌+◌, ◌-◌, ◌*◌, ◌<◌, ◌≤◌, Bool, true, false, List, [], ◌∷◌, Option, None, Some, refl, sym, ap, subst, arith}
use Rattle.std.specs.Prelude.{◌&&◌, nat_le, if◌then◌else◌, unwrap_or}
use Rattle.std.proofs.lemmas.Bool.Decides.{nat_tests}
use Rattle.aquarius_top.specs.Number.{ZERO, is_digit, digits_from, at_most, within}

past_the_most : (most number : ℕ) → most < number → at_most most (Some number) ≡ None
past_the_most most number past =
    let too_great : nat_le number most ≡ false = grind (arith, nat_tests) in
    rw too_great refl

-- a number that has passed the most stays past it with more digits
pub stays_past : (most value : ℕ) (bytes : List ℕ) → most < value → at_most most (digits_from value bytes) ≡ None
stays_past most value [] past = past_the_most most value past
stays_past most value (byte ∷ bytes) past =
    let further : most < 10 * value + (byte - ZERO) = omega arith in
    let rest : at_most most (digits_from (10 * value + (byte - ZERO)) bytes) ≡ None = stays_past most (10 * value + (byte - ZERO)) bytes further in
    elim (is_digit byte) as (λ v. at_most most (if v then digits_from (10 * value + (byte - ZERO)) bytes else None) ≡ None) [
      | true ↦ rest
      | false ↦ refl
    ]

same_number : (a b : ℕ) → Some a ≡ Some b → a ≡ b
same_number a b e = ap (λ o. unwrap_or o a) e

none_tested : (low high : Bool) (n : ℕ) → (if high then Some n else None) ≡ None → (if low && high then Some n else None) ≡ None
none_tested low true n e = absurd (let no : ⊥ = cc in no)
none_tested true false n e = refl
none_tested false false n e = refl

zero_tested : (high : Bool) (n : ℕ) → (if high then Some n else None) ≡ Some 0 → (if nat_le 1 n && high then Some n else None) ≡ None
zero_tested true n e =
    let P : ℕ → Type 0 = λ m. (if nat_le 1 m && true then Some m else None) ≡ None in subst P (sym (same_number n 0 e)) refl
zero_tested false n e = absurd (let no : ⊥ = cc in no)

some_tested : (high : Bool) (n m : ℕ) → 1 ≤ m → (if high then Some n else None) ≡ Some m → (if nat_le 1 n && high then Some n else None) ≡ Some m
some_tested true n m least e =
    let P : ℕ → Type 0 = λ k. (if nat_le 1 k && true then Some k else None) ≡ Some m in
    let low : nat_le 1 m ≡ true = grind (arith, nat_tests) in
    let own : P m = rw low refl in subst P (sym (same_number n m e)) own
some_tested false n m least e = absurd (let no : ⊥ = cc in no)

-- a number of at least 1 from one of at most the most
pub within_none : (most : ℕ) (o : Option ℕ) → at_most most o ≡ None → within most o ≡ None
within_none most None e = refl
within_none most (Some n) e = none_tested (nat_le 1 n) (nat_le n most) n e

pub within_zero : (most : ℕ) (o : Option ℕ) → at_most most o ≡ Some 0 → within most o ≡ None
within_zero most None e = refl
within_zero most (Some n) e = zero_tested (nat_le n most) n e

pub within_some : (most : ℕ) (o : Option ℕ) (m : ℕ) → 1 ≤ m → at_most most o ≡ Some m → within most o ≡ Some m
within_some most None m least e = absurd (let no : ⊥ = cc in no)
within_some most (Some n) m least e = some_tested (nat_le n most) n m least e
