-- What the program answers: for the words and the source's bytes, the bytes that are written and the status.
use Rattle.std.specs.Prelude.{◌≡◌, ◌≢◌, ◌≤◌, ◌<◌, ℕ, Bool, true, false, IsTrue, IfSome, Option, None, Some, List, codes, length, take}
use Rattle.std.specs.Io.KnownBytes.{Appends}
use Rattle.source_meaning.specs.Program.{Name, Program}
use Rattle.source_meaning.specs.RuleText.{is_name}
use Rattle.aq_base.specs.Refusal.{line_of}
use Rattle.aq_base.specs.declared.limits.Limits.{Limits}
use Rattle.aq_base.specs.declared.refusal.Refusal.{Refusal}
use Rattle.aq_base.specs.declared.refusal.Refusal.TheVariants as refusal
use Rattle.aq_base.specs.declared.status.Status.{Status}
use Rattle.aq_base.specs.declared.status.Status.TheVariants as status
use Rattle.aquarius_top.specs.FrontRefusal.{MOST_INPUT, FrontRefuses}
use Rattle.aquarius_top.specs.Words.{Asked, to_run, to_show, to_exec, to_bam, to_analyse, to_verify, to_join, to_work, command_of}
use Rattle.aquarius_top.specs.AnalyseReply.{AnalyseReply}
use Rattle.aquarius_top.specs.BamReply.{BamReply}
use Rattle.aquarius_top.specs.CodeReply.{VerifyReply, JoinReply}
use Rattle.aquarius_top.specs.Chosen.{IsRuleProgram, IsSupported, Chosen}
use Rattle.aquarius_top.specs.Compiled.{RunsCode, ShowReply}
use Rattle.aquarius_top.specs.Ran.{Ran}

-- what a query on a text is answered under limits, a row for each cause
pub data RunReply (query : Name) (limits : Limits) (text : List ℕ) : List ℕ → Status → Type 0 where
  too_long : MOST_INPUT < length text → RunReply query limits text (line_of refusal.InputLength) status.Refused
  refused :
      length text ≤ MOST_INPUT → (IsSupported query text → ⊥) → (cause : Refusal) → FrontRefuses text query cause
      → RunReply query limits text (line_of cause) status.Refused
  not_entry :
      length text ≤ MOST_INPUT → IsTrue (is_name query) → (program : Program) → IsRuleProgram text program
      → query ≢ program.entry → RunReply query limits text (line_of refusal.NotEntry) status.Refused
  ran :
      {bytes : List ℕ} → {answer : Status} → length text ≤ MOST_INPUT → (program : Program) → Chosen query text program
      → Ran program limits bytes answer → RunReply query limits text bytes answer

-- what words and a text are answered, where it is said
pub data Replies (words : List (List ℕ)) (text : List ℕ) : List ℕ → Status → Type 0 where
  bad_words : command_of words ≡ None → Replies words text (codes "bad words\n") status.BadWords
  run :
      {bytes : List ℕ} → {answer : Status} → (asked : Asked) → command_of words ≡ Some (to_run asked)
      → RunReply asked.query asked.limits text bytes answer → Replies words text bytes answer
  show :
      {bytes : List ℕ} → {answer : Status} → (asked : Asked) → command_of words ≡ Some (to_show asked)
      → ShowReply asked.query text bytes answer → Replies words text bytes answer
  -- only that a text of code that is too long is refused
  exec :
      (asked : Asked) → command_of words ≡ Some (to_exec asked) → MOST_INPUT < length text
      → Replies words text (line_of refusal.InputLength) status.Refused
  bam :
      {bytes : List ℕ} → {answer : Status} → command_of words ≡ Some to_bam → BamReply text bytes answer → Replies words text bytes answer
  analyse :
      {bytes : List ℕ} → {answer : Status} → command_of words ≡ Some to_analyse → AnalyseReply text bytes answer
      → Replies words text bytes answer
  verify :
      {bytes : List ℕ} → {answer : Status} → command_of words ≡ Some to_verify → VerifyReply text bytes answer
      → Replies words text bytes answer
  join :
      {bytes : List ℕ} → {answer : Status} → command_of words ≡ Some to_join → JoinReply text bytes answer
      → Replies words text bytes answer
  -- a program that is made here is not refused, unless the verifier rejects its code
  work :
      (seed size : ℕ) → command_of words ≡ Some (to_work seed size)
      → Replies words text (line_of refusal.Unsupported) status.Refused

-- the text is the one that is told, where one is
abbrev pub IsTold : Option (List ℕ) → List ℕ → Type 0
IsTold told text = IfSome told (λ known. known ≡ text)

-- the statuses with a whole reply: all but want of memory and faults
abbrev pub is_reply : Status → Bool
is_reply status.Memory = false
is_reply status.ReadFault = false
is_reply status.WriteFault = false
is_reply _ = true

-- the statuses of a run that is over
abbrev pub is_run_end : Status → Bool
is_run_end status.Solved = true
is_run_end status.NoSolution = true
is_run_end status.Raised = true
is_run_end status.StepLimit = true
is_run_end status.AreaLimit = true
is_run_end _ = false

-- a status with a whole reply: the sink has taken the bytes of a reply with it
abbrev pub WritesWhole : (List ℕ → Status → Type 0) → Status → Option (List ℕ) → Option (List ℕ) → Type 0
WritesWhole IsReply result before now =
    IsTrue (is_reply result) → (bytes : List ℕ) × IsReply bytes result × Appends before now bytes

-- the sink has taken the first bytes of a reply
abbrev pub WritesFront : (List ℕ → Status → Type 0) → Option (List ℕ) → Option (List ℕ) → Type 0
WritesFront IsReply before now =
    (bytes : List ℕ) × (answer : Status) × (n : ℕ) × IsReply bytes answer × (n ≤ length bytes) × Appends before now (take n bytes)

-- a status with a whole reply: the sink has taken the bytes of a reply with it, or code ran of which that is not said
pub data Answers (words : List (List ℕ)) (text : List ℕ) (result : Status) (before now : Option (List ℕ)) : Type 0 where
  replied : (bytes : List ℕ) → Replies words text bytes result → Appends before now bytes → Answers words text result before now
  ran_code : RunsCode words text → Answers words text result before now

-- the sink has taken the first bytes of a reply, or code ran of which that is not said
pub data AnswersInPart (words : List (List ℕ)) (text : List ℕ) (before now : Option (List ℕ)) : Type 0 where
  replied : WritesFront (Replies words text) before now → AnswersInPart words text before now
  ran_code : RunsCode words text → AnswersInPart words text before now

-- these bytes, with this status
abbrev pub IsWritten : List ℕ → Status → List ℕ → Status → Type 0
IsWritten line expected bytes answer = (bytes ≡ line) × (answer ≡ expected)
