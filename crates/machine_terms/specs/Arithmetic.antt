-- What an operation on two integers of 64 bits gives, said over whole numbers.
use Rattle.std.specs.Prelude.{◌≡◌, ◌≢◌, ℕ, ◌^◌, ◌==◌, ℤ, pos, negsuc, ◌+ℤ◌, ◌-ℤ◌, ◌*ℤ◌, ◌<ℤ◌, ◌≤ℤ◌, Bool, if◌then◌else◌, nat_lt, Result, Ok, Err, int_div, int_rem, unsigned_abs}
use Rattle.std.specs.Int.{w64, int_rem_euclid, int_shr, int_bit_and, int_bit_or}
use Rattle.bam_code.specs.declared.arith_op.ArithOp.{ArithOp}
use Rattle.bam_code.specs.declared.arith_op.ArithOp.TheVariants as op
use Rattle.bam_code.specs.declared.comparison.Comparison.{Comparison}
use Rattle.bam_code.specs.declared.comparison.Comparison.TheVariants as comparison
use Rattle.machine_terms.specs.declared.evaluation_fault.EvaluationFault.{EvaluationFault}
use Rattle.machine_terms.specs.declared.evaluation_fault.EvaluationFault.TheVariants as fault

-- whether a number lies from -2 ^ 63 to 2 ^ 63 - 1; `negsuc n` is -(n + 1)
abbrev pub fits : ℤ → Bool
fits (pos n) = nat_lt n (2 ^ 63)
fits (negsuc n) = nat_lt n (2 ^ 63)

-- the number, or an overflow where it does not fit
abbrev pub within : ℤ → Result ℤ EvaluationFault
within z = if fits z then Ok z else Err fault.IntOverflow

-- what a division by this divisor gives, where the divisor is not 0
abbrev pub divided : ℤ → Result ℤ EvaluationFault → Result ℤ EvaluationFault
divided (pos n) quotient = if n == 0 then Err fault.ZeroDivisor else quotient
divided (negsuc n) quotient = quotient

-- a number, moved by the divisor unless it is 0
abbrev pub moved : ℤ → ℤ → ℤ
moved r d = if unsigned_abs r == 0 then r else r +ℤ d

-- what is left by the quotient toward minus infinity, which is 0 or has the divisor's sign: for a divisor above 0 the
-- remainder that is not negative, for one below 0 that remainder moved by the divisor
abbrev pub modulo : ℤ → ℤ → ℤ
modulo x (pos n) = int_rem_euclid x (pos n)
modulo x (negsuc n) = moved (int_rem_euclid x (negsuc n)) (negsuc n)

-- what a shift by this many bits gives, where they are 0 to 63
abbrev pub shifted : (ℕ → Result ℤ EvaluationFault) → ℤ → Result ℤ EvaluationFault
shifted by (pos n) = if nat_lt n 64 then by n else Err fault.Undefined
shifted by (negsuc n) = Err fault.Undefined

-- the value of an operation, or why there is none
abbrev pub value_of : ArithOp → ℤ → ℤ → Result ℤ EvaluationFault
value_of op.Add x y = within (x +ℤ y)
value_of op.Subtract x y = within (x -ℤ y)
value_of op.Multiply x y = within (x *ℤ y)
value_of op.Quotient x y = divided y (within (int_div x y))
value_of op.Remainder x y = divided y (Ok (int_rem x y))
value_of op.Modulo x y = divided y (Ok (modulo x y))
value_of op.ShiftLeft x y = shifted (λ n. within (x *ℤ pos (2 ^ n))) y
value_of op.ShiftRight x y = shifted (λ n. Ok (int_shr x n)) y
value_of op.And x y = Ok (int_bit_and w64 x y)
value_of op.Or x y = Ok (int_bit_or w64 x y)

-- two integers stand so to each other
abbrev pub Holds : Comparison → ℤ → ℤ → Type 0
Holds comparison.Less x y = x <ℤ y
Holds comparison.AtMost x y = x ≤ℤ y
Holds comparison.Greater x y = y <ℤ x
Holds comparison.AtLeast x y = y ≤ℤ x
Holds comparison.Equal x y = x ≡ y
Holds comparison.NotEqual x y = x ≢ y
