-- How far a sink's count of faults rose where a write does not go on.
use Rattle.std.specs.Prelude.{ℕ, ◌+◌, ◌≤◌, min}
use Rattle.aq_base.specs.Faults.{LAST_COUNT}
use Rattle.answer_io.specs.declared.halt.Halt.{Halt}
use Rattle.answer_io.specs.declared.halt.Halt.TheVariants.{Stopped, Full, Failed, Stray}

-- one fault where the sink had one
abbrev pub rise : Halt → ℕ
rise Stopped = 0
rise (Full area) = 0
rise Failed = 1
rise Stray = 0

-- a count is past what it was by so much, or stands at its last value
abbrev pub HasRisenBy : ℕ → ℕ → ℕ → Type 0
HasRisenBy n old new = min (old + n) LAST_COUNT ≤ new
