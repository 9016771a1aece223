-- What holds of every source run and every text of rules.
use Rattle.std.specs.Prelude.{◌≡◌, ℕ, ◌+◌, List}
use Rattle.run_meaning.specs.Machine.{IsPrefix, after, over}
use Rattle.source_meaning.specs.Program.{Program}
use Rattle.source_meaning.specs.SourceStep.{State, Ending, source_step}
use Rattle.source_meaning.specs.RuleText.{IsRuleText}

-- the events of fewer steps are the first of those of more
abbrev pub EventsGrow : Type 0
EventsGrow = (program : Program) (state : State) (i j : ℕ)
    → IsPrefix (after (source_step program) i state).events (after (source_step program) (i + j) state).events

-- a run that is over stays over, and keeps its events, its work and its ending
abbrev pub StaysOver : Type 0
StaysOver = (program : Program) (state : State) (i j : ℕ) (ending : Ending)
    → (after (source_step program) i state).stand ≡ over ending
    → after (source_step program) (i + j) state ≡ after (source_step program) i state

-- a text is written from one program at most
abbrev pub OneReading : Type 0
OneReading = (text : List ℕ) (first second : Program) → IsRuleText text first → IsRuleText text second → first ≡ second
