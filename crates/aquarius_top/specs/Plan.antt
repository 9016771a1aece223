-- What is to be done once the source is read.
use Rattle.std.specs.Prelude.{◌≡◌, ◌≤◌, ◌<◌, ℕ, None, Some, List, length, ◌↔◌}
use Rattle.source_meaning.specs.Program.{Name, Program}
use Rattle.aq_base.specs.Refusal.{line_of}
use Rattle.aq_base.specs.declared.limits.Limits.{Limits}
use Rattle.aq_base.specs.declared.refusal.Refusal.{Refusal}
use Rattle.aq_base.specs.declared.refusal.Refusal.TheVariants as refusal
use Rattle.aq_base.specs.declared.status.Status.TheVariants as status
use Rattle.bam_link.specs.Shown.{Linked}
use Rattle.aquarius_top.specs.declared.plan.Plan.{Plan}
use Rattle.aquarius_top.specs.declared.plan.Plan.TheVariants as plan
use Rattle.aquarius_top.specs.declared.top.Task.{Task}
use Rattle.aquarius_top.specs.declared.top.Task.TheVariants as task
use Rattle.aquarius_top.specs.FrontRefusal.{MOST_INPUT}
use Rattle.aquarius_top.specs.Options.{none_given, limits_of}
use Rattle.aquarius_top.specs.Words.{Asking, to_run, to_show, to_exec, to_bam, to_analyse, to_verify, to_join, to_work, command_of}
use Rattle.aquarius_top.specs.AnalyseReply.{AnalyseReply, IsAnalysed}
use Rattle.aquarius_top.specs.BamReply.{BamReply, IsPrinted}
use Rattle.aquarius_top.specs.CodeReply.{IsJoined, VerifyReply, JoinReply}
use Rattle.aquarius_top.specs.Chosen.{Chosen}
use Rattle.aquarius_top.specs.Compiled.{IsCompiledRun, IsTaken, ShowReply}
use Rattle.aquarius_top.specs.Ran.{IsImageOf}
use Rattle.aquarius_top.specs.Reply.{RunReply}

-- the image is that of the program that the query on the text runs
pub record IsRunOf (query : Name) (text : List ℕ) (image : Linked) : Type 0 where
  pub program : Program
  pub chosen : Chosen query text program
  pub is_image : IsImageOf program image

-- the query on the text is refused so, whatever the limits, or runs the image, or is to be compiled
abbrev pub IsPlan : Name → List ℕ → Plan → Type 0
IsPlan query text (plan.Refused cause) = (limits : Limits) → RunReply query limits text (line_of cause) status.Refused
IsPlan query text (plan.Run image) = IsRunOf query text image
IsPlan query text (plan.Compile accepted) = IsCompiledRun query text

-- a refusal for what is asked
abbrev pub RefusedFor : Asking → List ℕ → Refusal → Type 0
RefusedFor (to_run asked) text cause = RunReply asked.query asked.limits text (line_of cause) status.Refused
RefusedFor (to_show asked) text cause = ShowReply asked.query text (line_of cause) status.Refused
RefusedFor (to_exec asked) text cause = (cause ≡ refusal.InputLength) × (MOST_INPUT < length text)
RefusedFor to_bam text cause = BamReply text (line_of cause) status.Refused
RefusedFor to_analyse text cause = AnalyseReply text (line_of cause) status.Refused
RefusedFor to_verify text cause = VerifyReply text (line_of cause) status.Refused
RefusedFor to_join text cause = JoinReply text (line_of cause) status.Refused
RefusedFor (to_work seed size) text cause = cause ≡ refusal.Unsupported

-- a run of an image for what is asked
abbrev pub RunsFor : Asking → List ℕ → Linked → Limits → Type 0
RunsFor (to_run asked) text image limits = (limits ≡ asked.limits) × (length text ≤ MOST_INPUT) × IsRunOf asked.query text image
RunsFor (to_show asked) text image limits = ⊥
RunsFor (to_exec asked) text image limits = ⊥
RunsFor to_bam text image limits = ⊥
RunsFor to_analyse text image limits = ⊥
RunsFor to_verify text image limits = ⊥
RunsFor to_join text image limits = ⊥
RunsFor (to_work seed size) text image limits = ⊥

-- a run of compiled code for what is asked
abbrev pub CompiledFor : Asking → List ℕ → Limits → Type 0
CompiledFor (to_run asked) text limits = (limits ≡ asked.limits) × IsCompiledRun asked.query text
CompiledFor (to_show asked) text limits = (limits ≡ asked.limits) × IsTaken asked.query text
CompiledFor (to_exec asked) text limits = ⊥
CompiledFor to_bam text limits = ⊥
CompiledFor to_analyse text limits = ⊥
CompiledFor to_verify text limits = ⊥
CompiledFor to_join text limits = ⊥
CompiledFor (to_work seed size) text limits = limits ≡ limits_of none_given

-- code that is accepted for what is asked
abbrev pub AcceptedFor : Asking → List ℕ → Type 0
AcceptedFor (to_run asked) text = ⊥
AcceptedFor (to_show asked) text = ⊥
AcceptedFor (to_exec asked) text = ⊥
AcceptedFor to_bam text = ⊥
AcceptedFor to_analyse text = ⊥
AcceptedFor to_verify text = length text ≤ MOST_INPUT
AcceptedFor to_join text = ⊥
AcceptedFor (to_work seed size) text = ⊥

-- a text of code that is joined for what is asked
abbrev pub JoinedFor : Asking → List ℕ → List ℕ → Type 0
JoinedFor (to_run asked) text bytes = ⊥
JoinedFor (to_show asked) text bytes = ⊥
JoinedFor (to_exec asked) text bytes = ⊥
JoinedFor to_bam text bytes = ⊥
JoinedFor to_analyse text bytes = ⊥
JoinedFor to_verify text bytes = ⊥
JoinedFor to_join text bytes = (length text ≤ MOST_INPUT) × IsJoined bytes
JoinedFor (to_work seed size) text bytes = ⊥

-- the text of a program's code, for what is asked
abbrev pub PrintedFor : Asking → List ℕ → List ℕ → Type 0
PrintedFor (to_run asked) text bytes = ⊥
PrintedFor (to_show asked) text bytes = ⊥
PrintedFor (to_exec asked) text bytes = ⊥
PrintedFor to_bam text bytes = (length text ≤ MOST_INPUT) × IsPrinted text bytes
PrintedFor to_analyse text bytes = ⊥
PrintedFor to_verify text bytes = ⊥
PrintedFor to_join text bytes = ⊥
PrintedFor (to_work seed size) text bytes = ⊥

-- the facts of a program, for what is asked
abbrev pub AnalysedFor : Asking → List ℕ → List ℕ → Type 0
AnalysedFor (to_run asked) text bytes = ⊥
AnalysedFor (to_show asked) text bytes = ⊥
AnalysedFor (to_exec asked) text bytes = ⊥
AnalysedFor to_bam text bytes = ⊥
AnalysedFor to_analyse text bytes = (length text ≤ MOST_INPUT) × IsAnalysed text bytes
AnalysedFor to_verify text bytes = ⊥
AnalysedFor to_join text bytes = ⊥
AnalysedFor (to_work seed size) text bytes = ⊥

-- a run of a text of code, for what is asked
abbrev pub ExecFor : Asking → Limits → Type 0
ExecFor (to_run asked) limits = ⊥
ExecFor (to_show asked) limits = ⊥
ExecFor (to_exec asked) limits = limits ≡ asked.limits
ExecFor to_bam limits = ⊥
ExecFor to_analyse limits = ⊥
ExecFor to_verify limits = ⊥
ExecFor to_join limits = ⊥
ExecFor (to_work seed size) limits = ⊥

-- what is asked for and a text come to
abbrev pub IsTaskFor : Asking → List ℕ → Task → Type 0
IsTaskFor asking text task.BadWords = ⊥
IsTaskFor asking text (task.Refused cause) = RefusedFor asking text cause
IsTaskFor asking text (task.Run image limits) = RunsFor asking text image limits
IsTaskFor asking text (task.Compiled ready limits) = CompiledFor asking text limits
IsTaskFor asking text (task.Exec query limits code) = ExecFor asking limits
IsTaskFor asking text (task.Printed bytes) = PrintedFor asking text bytes.items
IsTaskFor asking text (task.Analysed bytes) = AnalysedFor asking text bytes.items
IsTaskFor asking text task.Accepted = AcceptedFor asking text
IsTaskFor asking text (task.Joined bytes) = JoinedFor asking text bytes.items

-- the run of compiled code under these limits, or the refusal of a program whose code is rejected
abbrev pub IsCompileTask : Limits → Task → Type 0
IsCompileTask limits task.BadWords = ⊥
IsCompileTask limits (task.Refused cause) = cause ≡ refusal.Unsupported
IsCompileTask limits (task.Run image own) = ⊥
IsCompileTask limits (task.Compiled ready own) = own ≡ limits
IsCompileTask limits (task.Exec query own code) = ⊥
IsCompileTask limits (task.Printed bytes) = ⊥
IsCompileTask limits (task.Analysed bytes) = ⊥
IsCompileTask limits task.Accepted = ⊥
IsCompileTask limits (task.Joined bytes) = ⊥

-- the words ask for a task on a text
abbrev pub AsksFor : List (List ℕ) → List ℕ → Task → Type 0
AsksFor words text t = (asking : Asking) × (command_of words ≡ Some asking) × IsTaskFor asking text t

-- what words and a text come to
abbrev pub IsTask : List (List ℕ) → List ℕ → Task → Type 0
IsTask words text task.BadWords = command_of words ≡ None
IsTask words text (task.Refused cause) = AsksFor words text (task.Refused cause)
IsTask words text (task.Run image limits) = AsksFor words text (task.Run image limits)
IsTask words text (task.Compiled ready limits) = AsksFor words text (task.Compiled ready limits)
IsTask words text (task.Exec query limits code) = AsksFor words text (task.Exec query limits code)
IsTask words text (task.Printed bytes) = AsksFor words text (task.Printed bytes)
IsTask words text (task.Analysed bytes) = AsksFor words text (task.Analysed bytes)
IsTask words text task.Accepted = AsksFor words text task.Accepted
IsTask words text (task.Joined bytes) = AsksFor words text (task.Joined bytes)

-- the task is done where no limit and no fault comes
abbrev pub IsWork : Task → Type 0
IsWork task.BadWords = ⊥
IsWork (task.Refused cause) = ⊥
IsWork (task.Run image limits) = Unit {0}
IsWork (task.Compiled ready limits) = Unit {0}
IsWork (task.Exec query limits code) = Unit {0}
IsWork (task.Printed bytes) = Unit {0}
IsWork (task.Analysed bytes) = Unit {0}
IsWork task.Accepted = Unit {0}
IsWork (task.Joined bytes) = Unit {0}
