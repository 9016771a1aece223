-- A run of a program's code, and how it is answered.
use Rattle.std.specs.Prelude.{◌≡◌, ℕ, ◌-◌, Some, List, length, slice_get}
use Rattle.aq_base.specs.declared.limits.Limits.{Limits}
use Rattle.aq_base.specs.declared.status.Status.{Status}
use Rattle.run_meaning.specs.Machine.{IsPrefix, after, over}
use Rattle.source_meaning.specs.Program.{Name, Program}
use Rattle.source_meaning.specs.SourceStep as source
use Rattle.bam_code.specs.declared.code.Code.{Code}
use Rattle.bam_meaning.specs.Instruction.{Instruction}
use Rattle.bam_meaning.specs.State.{start_at}
use Rattle.bam_meaning.specs.Step.{Ending, exhausted}
use Rattle.bam_meaning.specs.Limited.{Stop, finished, Budgeted}
use Rattle.bam_meaning.specs.Linked.{linked, entry_places}
use Rattle.bam_meaning.specs.Finished.{FinishedRun}
use Rattle.bam_link.specs.Shown.{Linked}
use Rattle.aq_term.specs.FixedNames.{fixed_names}
use Rattle.rule_code.specs.Compiled.{IsCompiled}
use Rattle.rule_code.specs.Passes.{table_with}
use Rattle.rule_code.specs.Law.{CodeFollows, RulesCover}
use Rattle.aquarius_top.specs.declared.ending.Counts.{Counts}
use Rattle.aquarius_top.specs.Answer.{Seen, run_text, run_status}

-- the table of names that the code of a program uses: those that each table begins with, and then the program's own; opaque, since
-- the names that each table begins with are many
unfoldable pub names_of : Program → List Name
names_of program = table_with fixed_names program

-- the start at a place, with all steps left
abbrev pub begin_at : Limits → ℕ → Budgeted
begin_at limits place = record { left = limits.steps; state = start_at place }

-- the counts of a whole run in linked code, whose first two places are no instructions of the code
abbrev pub counts_of : (limits : Limits) (image : List Instruction) (start : Budgeted) → FinishedRun limits image start → Counts
counts_of limits image start run =
    record { instructions = length image - 2; steps = run.work; choices = run.tried }

-- the events are among the first of the program's own run; where the code's run is over by itself they are all of them, and
-- the program's run is over too
abbrev pub AreOfProgram : Program → List Seen → Stop → Type 0
AreOfProgram program events stop =
    (n : ℕ) × IsPrefix events (after (source.source_step program) n (source.query_state program.entry)).events × ((ending : Ending) → stop ≡ finished ending → (ending ≡ exhausted) × ((after (source.source_step program) n (source.query_state program.entry)).stand ≡ over source.exhausted) × (events ≡ (after (source.source_step program) n (source.query_state program.entry)).events))

-- the program's code has the events of the program, both ways, and its run under the limits, from the entry's place to where
-- it is over, is answered with these bytes and this status
pub record Ran (program : Program) (limits : Limits) (bytes : List ℕ) (answer : Status) : Type 0 where
  pub code : Code
  pub compiled : IsCompiled (names_of program) program code
  pub place : ℕ
  pub entry_place : slice_get (entry_places code) 0 ≡ Some place
  pub follows : CodeFollows program (linked code) (source.query_state program.entry) (start_at place)
  pub covers : RulesCover program (linked code) (source.query_state program.entry) (start_at place)
  pub run : FinishedRun limits (linked code) (begin_at limits place)
  pub of_program : AreOfProgram program run.events run.stop
  pub bytes_are : bytes ≡ run_text run.events run.stop (counts_of limits (linked code) (begin_at limits place) run)
  pub status_is : answer ≡ run_status run.events run.stop

-- an image of the program's code
pub record IsImageOf (program : Program) (image : Linked) : Type 0 where
  pub code : Code
  pub compiled : IsCompiled (names_of program) program code
  pub image_is : image ≡ record { instructions = linked code; entries = entry_places code }

-- a run of an image under limits from its first entry, with the bytes and the status that it is answered with
pub record Runs (image : Linked) (limits : Limits) (bytes : List ℕ) (answer : Status) : Type 0 where
  pub place : ℕ
  pub entry_place : slice_get image.entries 0 ≡ Some place
  pub run : FinishedRun limits image.instructions (begin_at limits place)
  pub bytes_are : bytes ≡ run_text run.events run.stop (counts_of limits image.instructions (begin_at limits place) run)
  pub status_is : answer ≡ run_status run.events run.stop
