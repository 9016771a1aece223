-- A procedure before and after moves are coalesced.
use Rattle.std.specs.Prelude.{◌≡◌, ◌≤◌, List, map}
use Rattle.bam_code.specs.declared.line.Line.{Line}
use Rattle.bam_code.specs.declared.procedure.Proc.{Proc}
use Rattle.move_coalescing.specs.Outlines.{firm, outline, register_moves}

-- but for moves into registers the same lines stand in the same order, past the names of registers, and there are no more such moves
pub record OnlyMovesGo (before after : List Line) : Type 0 where
  pub lines : firm (map outline after) ≡ firm (map outline before)
  pub moves : register_moves after ≤ register_moves before

pub record IsCoalesced (before after : Proc) : Type 0 where
  pub signature : after.signature ≡ before.signature
  pub lines : OnlyMovesGo before.lines after.lines
