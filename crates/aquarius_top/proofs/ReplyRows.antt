-- The rows of the table of replies, as the code makes them.
use Rattle.std.proofs.Common.{◌≡◌, ◌≢◌, ◌≤◌, ◌<◌, ℕ, ◌-◌, Bool, true, false, List, [], ◌++◌, Option, None, Some, length, take, length-append, append_assoc, refl, sym, ap, subst, ◌∙◌, arith}
use Rattle.std.specs.Prelude.{IsTrue, codes, not, option_map, unwrap_or}
use Rattle.std.specs.Str.{bytes_eq}
use Rattle.std.proofs.lemmas.Slice.Eq.{bytes_eq-Decides}
use Rattle.std.specs.Io.KnownBytes.{Appends, Consumes}
use Rattle.aq_base.specs.Refusal.{line_of}
use Rattle.aq_base.specs.declared.limits.Limits.{Limits}
use Rattle.aq_base.specs.declared.refusal.Refusal.{Refusal}
use Rattle.aq_base.specs.declared.refusal.Refusal.TheVariants as refusal
use Rattle.aq_base.specs.declared.status.Status.{Status}
use Rattle.aq_base.specs.declared.status.Status.TheVariants as status
use Rattle.bam_link.specs.Shown.{Linked}
use Rattle.source_meaning.specs.Program.{Name, Program}
use Rattle.source_meaning.specs.RuleText.{is_name, IsRuleText}
use Rattle.source_meaning.specs.Closed.{Closed}
use Rattle.source_meaning.proofs.RuleReading.{one_reading}
use Rattle.aquarius_top.specs.FrontRefusal.{MOST_INPUT, FrontRefuses}
use Rattle.aquarius_top.specs.Words.{Asked, Asking, to_run, to_show, to_exec, to_bam, to_analyse, to_verify, to_join, to_work, asks_for_source, reads_source, command_of}
use Rattle.aquarius_top.specs.AnalyseReply.{AnalyseReply}
use Rattle.aquarius_top.specs.BamReply.{BamReply}
use Rattle.aquarius_top.specs.Compiled.{IsTaken, IsCompiledRun, RunsCode, ShowReply}
use Rattle.aquarius_top.specs.declared.top.Task.{Task}
use Rattle.aquarius_top.specs.declared.top.Task.TheVariants as task
use Rattle.aquarius_top.specs.Options.{none_given, limits_of}
use Rattle.aquarius_top.specs.Chosen.{fits, IsRuleProgram, IsSupported, Chosen, rules, other}
use Rattle.aquarius_top.specs.Ran.{IsImageOf, Runs}
use Rattle.aquarius_top.specs.Plan.{IsTaskFor, IsCompileTask, IsRunOf, RefusedFor, RunsFor, CompiledFor, ExecFor, PrintedFor, AnalysedFor, AcceptedFor, JoinedFor}
use Rattle.aquarius_top.specs.CodeReply.{VerifyReply, JoinReply}
use Rattle.aquarius_top.specs.Reply.{RunReply, Replies, ran, Answers, AnswersInPart, IsTold, is_reply, IsWritten, WritesWhole, WritesFront}
use Rattle.aquarius_top.proofs.RunRows.{ran_of}

-- what was written whole, where each such reply is one of the words
pub whole_answers : (R : List ℕ → Status → Type 0) (words : List (List ℕ)) (text : List ℕ) (result : Status) (before now : Option (List ℕ))
    → ((bytes : List ℕ) (answer : Status) → R bytes answer → Replies words text bytes answer)
    → WritesWhole R result before now → IsTrue (is_reply result) → Answers words text result before now
whole_answers R words text result before now more writes reply =
    let whole = writes reply in Answers.replied whole.0 (more whole.0 result whole.1) whole.2

pub front_answers : (R : List ℕ → Status → Type 0) (words : List (List ℕ)) (text : List ℕ) (before now : Option (List ℕ))
    → ((bytes : List ℕ) (answer : Status) → R bytes answer → Replies words text bytes answer)
    → WritesFront R before now → AnswersInPart words text before now
front_answers R words text before now more writes =
    AnswersInPart.replied (writes.0, writes.1, writes.2, more writes.0 writes.1 writes.3, writes.4, writes.5)

-- the line that is written is the reply
pub line_replies : (words : List (List ℕ)) (text line : List ℕ) (expected : Status) → Replies words text line expected
    → (bytes : List ℕ) (answer : Status) → IsWritten line expected bytes answer → Replies words text bytes answer
line_replies words text line expected replies bytes answer written =
    subst (λ (b : List ℕ). Replies words text b answer) (sym written.0)
    (subst (λ (s : Status). Replies words text line s) (sym written.1) replies)

asked_replies : (words : List (List ℕ)) (text : List ℕ) (asked : Asked) (image : Linked) (limits : Limits)
    → command_of words ≡ Some (to_run asked) → limits ≡ asked.limits → length text ≤ MOST_INPUT → IsRunOf asked.query text image
    → (bytes : List ℕ) (answer : Status) → Runs image limits bytes answer → Replies words text bytes answer
asked_replies words text asked image limits asks same short is bytes answer runs =
    let own : Runs image asked.limits bytes answer = subst (λ (l : Limits). Runs image l bytes answer) same runs in
    Replies.run asked asks (ran short is.program is.chosen (ran_of is.program image asked.limits bytes answer is.is_image own))

-- a run that is asked for replies
pub run_replies : (words : List (List ℕ)) (text : List ℕ) (asking : Asking) (image : Linked) (limits : Limits)
    → command_of words ≡ Some asking → RunsFor asking text image limits
    → (bytes : List ℕ) (answer : Status) → Runs image limits bytes answer → Replies words text bytes answer
run_replies words text (to_run asked) image limits asks is bytes answer runs =
    asked_replies words text asked image limits asks is.0 is.1 is.2 bytes answer runs
run_replies words text (to_show asked) image limits asks is bytes answer runs = absurd is
run_replies words text (to_exec asked) image limits asks is bytes answer runs = absurd is
run_replies words text to_bam image limits asks is bytes answer runs = absurd is
run_replies words text to_analyse image limits asks is bytes answer runs = absurd is
run_replies words text to_verify image limits asks is bytes answer runs = absurd is
run_replies words text to_join image limits asks is bytes answer runs = absurd is
run_replies words text (to_work seed size) image limits asks is bytes answer runs = absurd is

-- a refusal for what is asked replies
pub refused_replies : (words : List (List ℕ)) (text : List ℕ) (asking : Asking) (cause : Refusal)
    → command_of words ≡ Some asking → RefusedFor asking text cause → Replies words text (line_of cause) status.Refused
refused_replies words text (to_run asked) cause asks is = Replies.run asked asks is
refused_replies words text (to_show asked) cause asks is = Replies.show asked asks is
refused_replies words text (to_exec asked) cause asks is =
    subst (λ (c : Refusal). Replies words text (line_of c) status.Refused) (sym is.0) (Replies.exec asked asks is.1)
refused_replies words text to_bam cause asks is = Replies.bam asks is
refused_replies words text to_analyse cause asks is = Replies.analyse asks is
refused_replies words text to_verify cause asks is = Replies.verify asks is
refused_replies words text to_join cause asks is = Replies.join asks is
refused_replies words text (to_work seed size) cause asks is =
    subst (λ (c : Refusal). Replies words text (line_of c) status.Refused) (sym is) (Replies.work seed size asks)

-- whether the source is read, by what the words ask for
pub reads_asked : (words : List (List ℕ)) (asking : Asking) → command_of words ≡ Some asking → reads_source words ≡ asks_for_source asking
reads_asked words asking e = ap (λ (o : Option Asking). unwrap_or (option_map asks_for_source o) false) e

pub reads_none : (words : List (List ℕ)) → command_of words ≡ None → reads_source words ≡ false
reads_none words e = ap (λ (o : Option Asking). unwrap_or (option_map asks_for_source o) false) e

-- words that get a run of a text of code ask for one
pub exec_asked : (words : List (List ℕ)) (text : List ℕ) (asking : Asking) (limits : Limits)
    → command_of words ≡ Some asking → ExecFor asking limits → RunsCode words text
exec_asked words text (to_run asked) limits asks is = absurd is
exec_asked words text (to_show asked) limits asks is = absurd is
exec_asked words text (to_exec asked) limits asks is = RunsCode.exec asked asks
exec_asked words text to_bam limits asks is = absurd is
exec_asked words text to_analyse limits asks is = absurd is
exec_asked words text to_verify limits asks is = absurd is
exec_asked words text to_join limits asks is = absurd is
exec_asked words text (to_work seed size) limits asks is = absurd is

-- words and a text that get a run of compiled code ask for one
pub compiled_asked : (words : List (List ℕ)) (text : List ℕ) (asking : Asking) (limits : Limits)
    → command_of words ≡ Some asking → CompiledFor asking text limits → RunsCode words text
compiled_asked words text (to_run asked) limits asks is = RunsCode.run asked asks is.1
compiled_asked words text (to_show asked) limits asks is = RunsCode.show asked asks is.1
compiled_asked words text (to_exec asked) limits asks is = absurd is
compiled_asked words text to_bam limits asks is = absurd is
compiled_asked words text to_analyse limits asks is = absurd is
compiled_asked words text to_verify limits asks is = absurd is
compiled_asked words text to_join limits asks is = absurd is
compiled_asked words text (to_work seed size) limits asks is = RunsCode.work seed size asks

-- the text of a program's code replies
pub printed_replies : (words : List (List ℕ)) (text : List ℕ) (asking : Asking) (bytes : List ℕ)
    → command_of words ≡ Some asking → PrintedFor asking text bytes → Replies words text bytes status.Solved
printed_replies words text (to_run asked) bytes asks is = absurd is
printed_replies words text (to_show asked) bytes asks is = absurd is
printed_replies words text (to_exec asked) bytes asks is = absurd is
printed_replies words text to_bam bytes asks is = Replies.bam asks (BamReply.printed is.0 is.1)
printed_replies words text to_analyse bytes asks is = absurd is
printed_replies words text to_verify bytes asks is = absurd is
printed_replies words text to_join bytes asks is = absurd is
printed_replies words text (to_work seed size) bytes asks is = absurd is

-- the facts of a program reply
pub analysed_replies : (words : List (List ℕ)) (text : List ℕ) (asking : Asking) (bytes : List ℕ)
    → command_of words ≡ Some asking → AnalysedFor asking text bytes → Replies words text bytes status.Solved
analysed_replies words text (to_run asked) bytes asks is = absurd is
analysed_replies words text (to_show asked) bytes asks is = absurd is
analysed_replies words text (to_exec asked) bytes asks is = absurd is
analysed_replies words text to_bam bytes asks is = absurd is
analysed_replies words text to_analyse bytes asks is = Replies.analyse asks (AnalyseReply.analysed is.0 is.1)
analysed_replies words text to_verify bytes asks is = absurd is
analysed_replies words text to_join bytes asks is = absurd is
analysed_replies words text (to_work seed size) bytes asks is = absurd is

-- code that is accepted replies
pub accepted_replies : (words : List (List ℕ)) (text : List ℕ) (asking : Asking)
    → command_of words ≡ Some asking → AcceptedFor asking text → Replies words text (codes "accepted\n") status.Solved
accepted_replies words text (to_run asked) asks is = absurd is
accepted_replies words text (to_show asked) asks is = absurd is
accepted_replies words text (to_exec asked) asks is = absurd is
accepted_replies words text to_bam asks is = absurd is
accepted_replies words text to_analyse asks is = absurd is
accepted_replies words text to_verify asks is = Replies.verify asks (VerifyReply.accepted is)
accepted_replies words text to_join asks is = absurd is
accepted_replies words text (to_work seed size) asks is = absurd is

-- joined code replies
pub joined_replies : (words : List (List ℕ)) (text : List ℕ) (asking : Asking) (bytes : List ℕ)
    → command_of words ≡ Some asking → JoinedFor asking text bytes → Replies words text bytes status.Solved
joined_replies words text (to_run asked) bytes asks is = absurd is
joined_replies words text (to_show asked) bytes asks is = absurd is
joined_replies words text (to_exec asked) bytes asks is = absurd is
joined_replies words text to_bam bytes asks is = absurd is
joined_replies words text to_analyse bytes asks is = absurd is
joined_replies words text to_verify bytes asks is = absurd is
joined_replies words text to_join bytes asks is = Replies.join asks (JoinReply.joined is.0 is.1)
joined_replies words text (to_work seed size) bytes asks is = absurd is

-- a text that is too long is refused whatever is asked of the source
pub long_refused : (asking : Asking) (text : List ℕ) → asks_for_source asking ≡ true → MOST_INPUT < length text
    → RefusedFor asking text refusal.InputLength
long_refused (to_run asked) text reads long = RunReply.too_long long
long_refused (to_show asked) text reads long = ShowReply.too_long long
long_refused (to_exec asked) text reads long = (refl, long)
long_refused to_bam text reads long = BamReply.too_long long
long_refused to_analyse text reads long = AnalyseReply.too_long long
long_refused to_verify text reads long = VerifyReply.too_long long
long_refused to_join text reads long = JoinReply.too_long long
long_refused (to_work seed size) text reads long = absurd (let no : ⊥ = cc in no)

-- no program of the text is supported where the one that it is written from is not
pub not_read : (query : Name) (text : List ℕ) → ((program : Program) → IsRuleText text program → ⊥) → IsSupported query text → ⊥
not_read query text none supported = none supported.1.0 supported.1.1.reads

pub not_name : (query : Name) (text : List ℕ) → is_name query ≡ false → IsSupported query text → ⊥
not_name query text none supported = let is : is_name query ≡ true = supported.0 in let no : ⊥ = cc in no

pub not_within : (query : Name) (text : List ℕ) (program : Program) → IsRuleText text program → fits program ≡ false
    → IsSupported query text → ⊥
not_within query text program reads none supported =
    let same : supported.1.0 ≡ program = one_reading text supported.1.0 program supported.1.1.reads reads in
    let within : fits supported.1.0 ≡ true = supported.1.1.within in
    let is : fits program ≡ true = ap fits (sym same) ∙ within in
    let no : ⊥ = cc in no

pub not_closed : (query : Name) (text : List ℕ) (program : Program) → IsRuleText text program → (Closed program → ⊥)
    → IsSupported query text → ⊥
not_closed query text program reads none supported =
    let same : supported.1.0 ≡ program = one_reading text supported.1.0 program supported.1.1.reads reads in
    none (subst Closed same supported.1.1.closed)

-- some text is the one that is told
pub some_told : (told : Option (List ℕ)) → (text : List ℕ) × IsTold told text
some_told None = ([], tt)
some_told (Some left) = (left, refl)

-- the text that was told, and what was read of it
pub told_text : (told new : Option (List ℕ)) (front : List ℕ) → Consumes told new front
    → (text : List ℕ) × IsTold told text × (length front ≤ length text)
told_text None new front consumed = (front, tt, omega arith)
told_text (Some left) None front consumed = absurd consumed
told_text (Some left) (Some rest) front consumed =
    (left, refl, let whole = length-append front rest in let counted = ap length consumed in omega arith)

-- queries and entries that differ
pub differ : (one entry : List ℕ) → true ≡ not (bytes_eq one entry) → one ≢ entry
differ one entry tested same = let equal = (bytes_eq-Decides one entry).1 same in let no = ap not equal in cc

not_false : (b : Bool) → false ≡ not b → b ≡ true
not_false true e = refl
not_false false e = absurd (let no : ⊥ = cc in no)

-- queries and entries that are the same
pub alike : (one entry : List ℕ) → false ≡ not (bytes_eq one entry) → one ≡ entry
alike one entry tested = (bytes_eq-Decides one entry).0 (not_false (bytes_eq one entry) tested)

-- a query that is taken has the refusal of what cannot run
taken_unsupported : (query : Name) (text : List ℕ) → IsTaken query text → FrontRefuses text query refusal.Unsupported
taken_unsupported query text taken = FrontRefuses.unsupported taken.entries taken.entered.0 taken.program taken.entered.1

-- what a query comes to on a program that is compiled
pub compiled_run : (query : Name) (text : List ℕ) (limits : Limits) (t : Task) → IsCompiledRun query text → IsCompileTask limits t
    → IsTaskFor (to_run (record { query = query; limits = limits })) text t
compiled_run query text limits task.BadWords is made = absurd made
compiled_run query text limits (task.Refused cause) is made =
    let P : Refusal → Type 0 = λ c. RunReply query limits text (line_of c) status.Refused in
    subst P (sym made) (RunReply.refused is.1.short is.0 refusal.Unsupported (taken_unsupported query text is.1))
compiled_run query text limits (task.Run image own) is made = absurd made
compiled_run query text limits (task.Compiled ready own) is made = (made, is)
compiled_run query text limits (task.Exec words own code) is made = absurd made
compiled_run query text limits (task.Printed bytes) is made = absurd made
compiled_run query text limits (task.Analysed bytes) is made = absurd made
compiled_run query text limits task.Accepted is made = absurd made
compiled_run query text limits (task.Joined bytes) is made = absurd made

pub compiled_show : (query : Name) (text : List ℕ) (limits : Limits) (t : Task) → IsTaken query text → IsCompileTask limits t
    → IsTaskFor (to_show (record { query = query; limits = limits })) text t
compiled_show query text limits task.BadWords is made = absurd made
compiled_show query text limits (task.Refused cause) is made =
    let P : Refusal → Type 0 = λ c. ShowReply query text (line_of c) status.Refused in
    subst P (sym made) (ShowReply.refused is.short refusal.Unsupported (taken_unsupported query text is))
compiled_show query text limits (task.Run image own) is made = absurd made
compiled_show query text limits (task.Compiled ready own) is made = (made, is)
compiled_show query text limits (task.Exec words own code) is made = absurd made
compiled_show query text limits (task.Printed bytes) is made = absurd made
compiled_show query text limits (task.Analysed bytes) is made = absurd made
compiled_show query text limits task.Accepted is made = absurd made
compiled_show query text limits (task.Joined bytes) is made = absurd made

pub compiled_work : (seed size : ℕ) (text : List ℕ) (limits : Limits) (t : Task) → limits ≡ limits_of none_given → IsCompileTask limits t
    → IsTaskFor (to_work seed size) text t
compiled_work seed size text limits task.BadWords same made = absurd made
compiled_work seed size text limits (task.Refused cause) same made = made
compiled_work seed size text limits (task.Run image own) same made = absurd made
compiled_work seed size text limits (task.Compiled ready own) same made = made ∙ same
compiled_work seed size text limits (task.Exec words own code) same made = absurd made
compiled_work seed size text limits (task.Printed bytes) same made = absurd made
compiled_work seed size text limits (task.Analysed bytes) same made = absurd made
compiled_work seed size text limits task.Accepted same made = absurd made
compiled_work seed size text limits (task.Joined bytes) same made = absurd made
