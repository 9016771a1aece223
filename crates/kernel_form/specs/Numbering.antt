-- The table of the numbers that variables have in the present clause.
use Rattle.std.specs.Prelude.{◌≡◌, ℕ, ◌<◌, ◌≤◌, List, All}
use Rattle.kernel_form.specs.declared.clause_variables.Numbered.{Numbered}

-- numbered in this round or before, and where in this round, below the next number
abbrev pub IsNumbered : ℕ → ℕ → Numbered → Type 0
IsNumbered round next e = (e.round ≤ round) × (e.round ≡ round → e.number < next)

abbrev pub AreNumbered : ℕ → ℕ → List Numbered → Type 0
AreNumbered round next es = All (IsNumbered round next) es
