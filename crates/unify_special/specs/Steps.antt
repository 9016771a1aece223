-- Where control goes at the lines of a procedure, and how many words they move.
use Rattle.std.specs.Prelude.{ℕ, List, [], ◌∷◌, ◌++◌, Option, Some, None}
use Rattle.std.specs.List.{filter_map, sum_by}
use Rattle.aq_term.specs.declared.proc_name.ProcName.{ProcName}
use Rattle.bam_code.specs.declared.line.Line.{Line}
use Rattle.bam_code.specs.declared.line.Line.TheVariants as line

-- a line behind which control does not just go on in the procedure, or by which choices or catchers come and go
pub data Step : Type 0 where
  failed : Step
  called : (name : ProcName) → Step
  -- a call that gives the procedure up
  left : (name : ProcName) → Step
  returned : Step
  raised : Step
  -- a choice is made, gets another alternative, is removed
  tried : Step
  retried : Step
  trusted : Step
  -- a catcher is made, is put out of force
  caught : Step
  uncaught : Step

abbrev pub step_of : Line → Option Step
step_of line.Fail = Some failed
step_of (line.Call name) = Some (called name)
step_of (line.Exec name) = Some (left name)
step_of line.Return = Some returned
step_of (line.Raise term) = Some raised
step_of (line.Try registers alternative) = Some tried
step_of (line.Retry alternative) = Some retried
step_of line.Trust = Some trusted
step_of (line.Catch registers ball) = Some caught
step_of line.Uncatch = Some uncaught
step_of _ = None

-- those of lines, in order
abbrev pub steps_of : List Line → List Step
steps_of lines = filter_map step_of lines

-- with one more where there is one
abbrev pub with_step : List Step → Option Step → List Step
with_step steps None = steps
with_step steps (Some step) = steps ++ step ∷ []

abbrev pub moves_of_line : Line → ℕ
moves_of_line (line.Move into from) = 1
moves_of_line _ = 0

-- how many of the lines move a word
abbrev pub moves_of : List Line → ℕ
moves_of lines = sum_by moves_of_line lines
