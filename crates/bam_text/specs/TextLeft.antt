-- What is left of a text, and how its lines are numbered.
use Rattle.std.specs.Prelude.{ℕ, ◌+◌, ◌==◌, List, [], ◌∷◌, if◌then◌else◌}

-- the bytes that are still to come, and the number of the line that was last asked for
pub record TextLeft : Type 0 where
  pub rest : List ℕ
  pub number : ℕ

abbrev pub new_lines : List ℕ → ℕ
new_lines [] = 0
new_lines (byte ∷ bytes) = (if byte == 10 then 1 else 0) + new_lines bytes

-- the greatest number of a line that can be asked for: one past those that end
abbrev pub line_bound : TextLeft → ℕ
line_bound left = left.number + new_lines left.rest + 1
