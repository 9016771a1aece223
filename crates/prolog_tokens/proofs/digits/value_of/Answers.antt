use Rattle.std.proofs.Common.{ℕ, ◌*◌, ◌∙◌, ap, arith}
use Rattle.std.specs.Char.{digit_value}
use Rattle.prolog_tokens.proofs.DigitLemmas.{overflows}
use Rattle.prolog_tokens.proofs.digits.value_of.Goals as goal

pub returns-in_err-checked_mul-clause-value : goal.returns-in_err-checked_mul-clause-value
returns-in_err-checked_mul-clause-value c =
    c.from_residual.ensures ∙ overflows _ _ _ _ c.in-Some.digit _ (c.from-base.ensures ∙ c.base.ensures.value) (omega arith) c.loop-byte-test.true c.loop-byte.invariant.so_far (omega (arith, c.in-Some.ensures.value.0, c.in-Some.ensures.value.1)) (c.in-Some.ensures.value.1 ∙ ap digit_value c.from.ensures) (omega (arith, c.in_err-checked_mul.ensures, ap (λ (n : ℕ). c.loop-byte.value * n) c.from-in-loop-byte.ensures))

pub returns-in_err-value-clause-value : goal.returns-in_err-value-clause-value
returns-in_err-value-clause-value c =
    c.from_residual-in_err-value.ensures ∙ overflows _ _ _ _ c.in-Some.digit _ (c.from-base.ensures ∙ c.base.ensures.value) (omega arith) c.loop-byte-test.true c.loop-byte.invariant.so_far (omega (arith, c.in-Some.ensures.value.0, c.in-Some.ensures.value.1)) (c.in-Some.ensures.value.1 ∙ ap digit_value c.from.ensures) (omega (arith, c.in_err-value.ensures, c.in_ok-checked_mul.ensures, ap (λ (n : ℕ). c.loop-byte.value * n) c.from-in-loop-byte.ensures))

pub returns-then-value-gt-GREATEST-clause-value : goal.returns-then-value-gt-GREATEST-clause-value
returns-then-value-gt-GREATEST-clause-value c =
    overflows _ _ _ _ c.in-Some.digit _ (c.from-base.ensures ∙ c.base.ensures.value) (omega arith) c.loop-byte-test.true c.loop-byte.invariant.so_far (omega (arith, c.in-Some.ensures.value.0, c.in-Some.ensures.value.1)) (c.in-Some.ensures.value.1 ∙ ap digit_value c.from.ensures) (omega (arith, c.in_ok-value.ensures, c.in_ok-checked_mul.ensures, ap (λ (n : ℕ). c.loop-byte.value * n) c.from-in-loop-byte.ensures))
