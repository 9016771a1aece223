-- How a run is written: the answers, the line of how it is over, and the line of counts; and the status that it ends with.
use Rattle.std.specs.Prelude.{ℕ, Bool, if◌then◌else◌, List, [], ◌∷◌, ◌++◌, codes, decimal}
use Rattle.run_meaning.specs.Event.{Event}
use Rattle.run_meaning.specs.Written.{NEW_LINE, body, closed, true_lines}
use Rattle.bam_meaning.specs.Step.{exhausted, wrong}
use Rattle.bam_meaning.specs.Limited.{Stop, finished, out_of_steps, out_of_area}
use Rattle.bam_machine.specs.ToEnd.{has_solution}
use Rattle.aq_base.specs.declared.area_name.AreaName.{AreaName}
use Rattle.aq_base.specs.declared.area_name.AreaName.TheVariants as area
use Rattle.aq_base.specs.declared.status.Status.{Status}
use Rattle.aq_base.specs.declared.status.Status.TheVariants as status
use Rattle.aquarius_top.specs.declared.ending.Counts.{Counts}

-- a solution has no values, since a query of a name has no variables
abbrev pub Seen : Type 0
Seen = Event (Unit {0})

-- the line of an area that is full
abbrev pub area_line : AreaName → List ℕ
area_line area.Heap = codes "limit: heap"
area_line area.Env = codes "limit: env"
area_line area.Choice = codes "limit: choice"
area_line area.Trail = codes "limit: trail"
area_line area.Work = codes "limit: work"

-- the line of how a run is over, without its new line; the code of a program is never wrong
abbrev pub ending_line : Stop → List ℕ
ending_line (finished exhausted) = codes "no"
ending_line (finished wrong) = []
ending_line out_of_steps = codes "limit: steps"
ending_line (out_of_area name) = area_line name

-- the line of counts, without its new line
abbrev pub counts_line : Counts → List ℕ
counts_line counts =
    codes "% code " ++ (decimal counts.instructions ++ (codes " steps " ++ (decimal counts.steps ++ (codes " choices " ++ decimal counts.choices))))

-- the bytes of a run that is over
abbrev pub run_text : List Seen → Stop → Counts → List ℕ
run_text events stop counts =
    closed (body (λ _. true_lines) events) (ending_line stop) ++ (counts_line counts ++ NEW_LINE ∷ [])

abbrev pub exhausted_status : Bool → Status
exhausted_status solved = if solved then status.Solved else status.NoSolution

-- the status of a run that is over
abbrev pub run_status : List Seen → Stop → Status
run_status events (finished exhausted) = exhausted_status (has_solution events)
run_status events (finished wrong) = status.NoSolution
run_status events out_of_steps = status.StepLimit
run_status events (out_of_area name) = status.AreaLimit
