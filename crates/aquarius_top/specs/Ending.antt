-- The line and the status of what a machine has come to, and pieces of bytes that are joined.
use Rattle.std.specs.Prelude.{ℕ, Bool, List, [], ◌∷◌, ◌++◌, codes}
use Rattle.std.specs.Borrow.{Bor}
use Rattle.run_meaning.specs.Written.{NEW_LINE}
use Rattle.aq_base.specs.declared.status.Status.{Status}
use Rattle.aq_base.specs.declared.status.Status.TheVariants as status
use Rattle.bam_machine.specs.declared.end.End.{End}
use Rattle.bam_machine.specs.declared.end.End.TheVariants as end
use Rattle.aquarius_top.specs.declared.ending.Counts.{Counts}
use Rattle.aquarius_top.specs.Answer.{area_line, counts_line, exhausted_status}

-- a solution and a fault are no endings, and the line of a raised term is written by the machine. A run whose code breaks a
-- rule that no test before it saw is refused where it is met
abbrev pub line_for : End → List ℕ
line_for end.Solution = []
line_for end.Exhausted = codes "no"
line_for end.Raised = []
line_for end.StepLimit = codes "limit: steps"
line_for (end.AreaLimit name) = area_line name
line_for end.WriteFault = []
line_for end.Stray = codes "refused: unsupported"

abbrev pub status_for : End → Bool → Status
status_for end.Solution solved = status.WriteFault
status_for end.Exhausted solved = exhausted_status solved
status_for end.Raised solved = status.Raised
status_for end.StepLimit solved = status.StepLimit
status_for (end.AreaLimit name) solved = status.AreaLimit
status_for end.WriteFault solved = status.WriteFault
status_for end.Stray solved = status.Refused

-- the lines behind the answers
abbrev pub last_lines : List ℕ → Counts → List ℕ
last_lines line counts = line ++ NEW_LINE ∷ (counts_line counts ++ NEW_LINE ∷ [])

-- all bytes of pieces
abbrev pub joined : List (Bor (List ℕ)) → List ℕ
joined [] = []
joined (piece ∷ pieces) = piece.now ++ joined pieces
