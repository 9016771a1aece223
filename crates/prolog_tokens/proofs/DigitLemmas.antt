-- Facts about numbers by their digits.
use Rattle.std.proofs.Common.{◌≡◌, ℕ, ◌+◌, ◌*◌, ◌<◌, ◌≤◌, Bool, true, false, cond, List, [], ◌∷◌, length, drop, get_or, sym, arith, refl, add-one, None}
use Rattle.std.proofs.Math.Seq.{drop-cons}
use Rattle.std.proofs.lemmas.Nat.{mul-le}
use Rattle.std.proofs.lemmas.Bool.{lt-ltb}
use Rattle.std.specs.Char.{digit_value, is_digit}
use Rattle.prolog_tokens.specs.Digits.{with_digit, with_digits, held}
use Rattle.prolog_tokens.specs.declared.digits.TheConstants.{GREATEST}

-- more digits make no number less
pub with_digit-grows : (base value byte : ℕ) → 1 ≤ base → value ≤ with_digit base value byte
with_digit-grows base value byte h =
    let case : (b : Bool) → value ≤ cond b (value * base + digit_value byte) value =
    λ b. elim b as (λ v. value ≤ cond v (value * base + digit_value byte) value) [
      | true ↦ grows base value (digit_value byte) h
      | false ↦ omega arith
    ] in
    case (is_digit byte base)
  where
    grows : (base value d : ℕ) → 1 ≤ base → value ≤ value * base + d
    grows base value d h =
        let same : value * 1 ≡ value = omega arith in
        omega (arith, mul-le value 1 value base (omega arith) h, same)

pub with_digits-grows : (base value : ℕ) (bytes : List ℕ) → 1 ≤ base → value ≤ with_digits base value bytes
with_digits-grows base value [] h = omega arith
with_digits-grows base value (b ∷ bs) h =
    omega (arith, with_digit-grows base value b h, with_digits-grows base (with_digit base value b) bs h)

-- the digits from a place on are the one there and those behind it
pub with_digits-step : (base value : ℕ) (bytes : List ℕ) (i : ℕ) → i < length bytes →
    with_digits base value (drop i bytes) ≡ with_digits base (with_digit base value (get_or bytes i 0)) (drop (i + 1) bytes)
with_digits-step base value bytes i h = rw (add-one, drop-cons bytes i 0) refl

-- where one more digit makes a number that no token holds, no token holds the whole
pub overflows : (own base value i d : ℕ) (bytes : List ℕ) → base ≡ own → 1 ≤ base → i < length bytes →
    with_digits base 0 bytes ≡ with_digits base value (drop i bytes) →
    d < base → d ≡ digit_value (get_or bytes i 0) → GREATEST < value * base + d →
    None ≡ held (with_digits own 0 bytes)
overflows own base value i d bytes same one below so_far digit is over =
    let more : with_digit base value (get_or bytes i 0) ≡ value * base + d =
    with_digit-of base value (get_or bytes i 0) d (sym is) digit in
    let step = with_digits-step base value bytes i below in
    let grows = with_digits-grows base (with_digit base value (get_or bytes i 0)) (drop (i + 1) bytes) one in
    rw (← same) (sym (not_held (with_digits base 0 bytes) (omega (arith, so_far, step, grows, more, over))))
  where
    with_digit-of : (base value byte d : ℕ) → digit_value byte ≡ d → d < base → with_digit base value byte ≡ value * base + d
    with_digit-of base value byte d is digit = rw is (rw (lt-ltb d base digit) refl)

    not_held : (n : ℕ) → GREATEST < n → held n ≡ None
    not_held n h = grind arith
