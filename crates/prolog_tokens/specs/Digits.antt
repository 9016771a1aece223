-- Integers by their digits.
use Rattle.std.specs.Prelude.{ℕ, ◌+◌, ◌*◌, List, [], ◌∷◌, Option, Some, None, nat_le, nat_eq, if◌then◌else◌}
use Rattle.std.specs.Char.{digit_value, is_digit}
use Rattle.prolog_tokens.specs.declared.digits.Radix.{Radix}
use Rattle.prolog_tokens.specs.declared.digits.Radix.TheVariants as radix
use Rattle.prolog_tokens.specs.declared.digits.TheConstants.{GREATEST}

abbrev pub base_of : Radix → ℕ
base_of radix.Binary = 2
base_of radix.Octal = 8
base_of radix.Decimal = 10
base_of radix.Hexadecimal = 16

-- the base whose letter stands after a leading 0: `b`, `o` or `x`
abbrev pub radix_of : ℕ → Option Radix
radix_of letter =
    if nat_eq letter 98 then Some radix.Binary
    else if nat_eq letter 111 then Some radix.Octal
    else if nat_eq letter 120 then Some radix.Hexadecimal
    else None

-- a number with one more digit; another byte is passed over
abbrev pub with_digit : ℕ → ℕ → ℕ → ℕ
with_digit base value byte = if is_digit byte base then value * base + digit_value byte else value

-- a number with more digits
abbrev pub with_digits : ℕ → ℕ → List ℕ → ℕ
with_digits base value [] = value
with_digits base value (byte ∷ bytes) = with_digits base (with_digit base value byte) bytes

-- the number, where a token holds it
abbrev pub held : ℕ → Option ℕ
held n = if nat_le n GREATEST then Some n else None
