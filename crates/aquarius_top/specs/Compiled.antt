-- Runs of code of which it is not said what they write: those of compiled programs and of texts of code.
use Rattle.std.specs.Prelude.{◌≡◌, ◌≤◌, ◌<◌, ℕ, Some, List, length}
use Rattle.aq_base.specs.Refusal.{line_of}
use Rattle.aq_base.specs.declared.refusal.Refusal.{Refusal}
use Rattle.aq_base.specs.declared.refusal.Refusal.TheVariants as refusal
use Rattle.aq_base.specs.declared.status.Status.{Status}
use Rattle.aq_base.specs.declared.status.Status.TheVariants as status
use Rattle.aq_term.specs.declared.entry.Entry.{Entry}
use Rattle.source_meaning.specs.Program.{Name}
use Rattle.aquarius_top.specs.FrontRefusal.{MOST_INPUT, FrontRefuses, IsProgramText, IsEntered}
use Rattle.aquarius_top.specs.Words.{Asked, to_run, to_show, to_exec, to_work, command_of}
use Rattle.aquarius_top.specs.Chosen.{IsSupported}

-- the text makes a program, and the query meets one of its entries: no refusal of the front holds
pub record IsTaken (query : Name) (text : List ℕ) : Type 0 where
  pub short : length text ≤ MOST_INPUT
  pub entries : List Entry
  pub program : IsProgramText text entries
  pub place : ℕ
  pub entered : IsEntered query entries place

-- a query on a text that are taken, and that are not a name and a program of names
abbrev pub IsCompiledRun : Name → List ℕ → Type 0
IsCompiledRun query text = (IsSupported query text → ⊥) × IsTaken query text

-- words and a text that get such a run
pub data RunsCode (words : List (List ℕ)) (text : List ℕ) : Type 0 where
  run : (asked : Asked) → command_of words ≡ Some (to_run asked) → IsCompiledRun asked.query text → RunsCode words text
  show : (asked : Asked) → command_of words ≡ Some (to_show asked) → IsTaken asked.query text → RunsCode words text
  exec : (asked : Asked) → command_of words ≡ Some (to_exec asked) → RunsCode words text
  work : (seed size : ℕ) → command_of words ≡ Some (to_work seed size) → RunsCode words text

-- how a query whose code is to be shown is refused on a text
pub data ShowReply (query : Name) (text : List ℕ) : List ℕ → Status → Type 0 where
  too_long : MOST_INPUT < length text → ShowReply query text (line_of refusal.InputLength) status.Refused
  refused :
      length text ≤ MOST_INPUT → (cause : Refusal) → FrontRefuses text query cause → ShowReply query text (line_of cause) status.Refused
