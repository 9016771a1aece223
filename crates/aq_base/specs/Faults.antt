-- A count of faults, as a source and a sink keep it.
use Rattle.std.specs.Prelude.{ℕ, ◌+◌, ◌≤◌, min}

-- the last value of a count, where it stays
abbrev pub LAST_COUNT : ℕ
LAST_COUNT = 18446744073709551615

-- a fault was counted: the count is past what it was, or stands at its last value
abbrev pub HasRisen : ℕ → ℕ → Type 0
HasRisen old new = min (old + 1) LAST_COUNT ≤ new
