-- Powers of two below 2 ^ 63.
use Rattle.std.proofs.Common.{◌≡◌, ℕ, ◌*◌, ◌%◌, ◌^◌, ◌<◌, arith}
use Rattle.std.proofs.lemmas.Nat.{one_shl, pow_below}

pub below_half : (k : ℕ) → k < 63 → 2 ^ k < 2 ^ 63
below_half k h = pow_below k 63 h

pub one_shifted_low : (k : ℕ) → k < 63 → (1 * 2 ^ k) % 2 ^ 64 ≡ 2 ^ k
one_shifted_low k h = one_shl k 64 (omega arith)
