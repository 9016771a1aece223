-- Decimal numbers without a sign or leading zeros.
use Rattle.std.specs.Prelude.{ℕ, ◌+◌, ◌-◌, ◌*◌, ◌==◌, ◌&&◌, nat_le, Bool, if◌then◌else◌, Option, None, Some, List, [], ◌∷◌}

abbrev pub ZERO : ℕ
ZERO = 48

abbrev pub is_digit : ℕ → Bool
is_digit byte = nat_le 48 byte && nat_le byte 57

-- the number of all digits, where those before stand for this number, or none where a byte is no digit
abbrev pub digits_from : ℕ → List ℕ → Option ℕ
digits_from value [] = Some value
digits_from value (byte ∷ bytes) = if is_digit byte then digits_from (10 * value + (byte - ZERO)) bytes else None

-- the number that the text writes
abbrev pub number_of : List ℕ → Option ℕ
number_of [] = None
number_of (byte ∷ []) = digits_from 0 (byte ∷ [])
number_of (byte ∷ next ∷ bytes) = if byte == ZERO then None else digits_from 0 (byte ∷ next ∷ bytes)

-- the number, where it is at most this one
abbrev pub at_most : ℕ → Option ℕ → Option ℕ
at_most most None = None
at_most most (Some number) = if nat_le number most then Some number else None

-- the number, where it is 1 to the most
abbrev pub within : ℕ → Option ℕ → Option ℕ
within most None = None
within most (Some number) = if nat_le 1 number && nat_le number most then Some number else None
