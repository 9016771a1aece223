-- Lines whose registers are forgotten.
use Rattle.std.specs.Prelude.{Bool, true, false, cond, ℕ, ◌+◌, List, [], ◌∷◌}
use Rattle.bam_code.specs.declared.line.Line.{Line}
use Rattle.bam_code.specs.declared.line.Line.TheVariants as line
use Rattle.bam_code.specs.declared.place.Place.TheVariants as at_place
use Rattle.reg_alloc.specs.Renamed.{renamed}

abbrev pub forget : ℕ → ℕ
forget register = 0

-- the line, but that all registers that it names are one; a label of any kind stays as it is
abbrev pub outline : Line → Line
outline line = renamed forget line

-- a `move` into a register
abbrev pub is_register_move : Line → Bool
is_register_move (line.Move (at_place.Register into) from) = true
is_register_move _ = false

-- those of lines that are no moves into registers
abbrev pub firm : List Line → List Line
firm [] = []
firm (line ∷ lines) = cond (is_register_move line) (firm lines) (line ∷ firm lines)

-- how many of lines are moves into registers
abbrev pub register_moves : List Line → ℕ
register_moves [] = 0
register_moves (line ∷ lines) = cond (is_register_move line) 1 0 + register_moves lines
