-- How many choices lines make, and how often control leaves them for good.
use Rattle.std.specs.Prelude.{◌≡◌, ℕ, ◌+◌, List, Option, Some, None}
use Rattle.std.specs.List.{sum_by}
use Rattle.bam_code.specs.declared.line.Line.{Line}
use Rattle.unify_special.specs.Steps.{Step, steps_of, tried, failed, left, returned, raised}

abbrev pub choices_at : Step → ℕ
choices_at tried = 1
choices_at _ = 0

abbrev pub choices_of : List Line → ℕ
choices_of lines = sum_by choices_at (steps_of lines)

-- a clause ends where it fails, leaves by a call, returns or raises
abbrev pub ends_at : Step → ℕ
ends_at failed = 1
ends_at (left name) = 1
ends_at returned = 1
ends_at raised = 1
ends_at _ = 0

abbrev pub ends_of : List Line → ℕ
ends_of lines = sum_by ends_at (steps_of lines)

abbrev pub returns_at : Step → ℕ
returns_at returned = 1
returns_at _ = 0

abbrev pub returns_of : List Line → ℕ
returns_of lines = sum_by returns_at (steps_of lines)

-- a number for a step that there is, and else 0
abbrev pub counted : (Step → ℕ) → Option Step → ℕ
counted count None = 0
counted count (Some step) = count step

-- lines with so many ends more, each of them a return
pub record OnlyReturns (count : ℕ) (old new : List Line) : Type 0 where
  pub ends : ends_of new ≡ ends_of old + count
  pub returns : returns_of new ≡ returns_of old + count
