-- A query on a text of rules has one reply under given limits.
use Rattle.std.proofs.Common.{◌≡◌, ◌≢◌, ◌↔◌, ◌<◌, ◌≤◌, ◌-◌, ℕ, Bool, true, false, IsTrue, List, [], ◌∷◌, Option, Some, filter, length, map, refl, sym, ◌∙◌, ap, subst, arith}
use Rattle.std.specs.Prelude.{if◌then◌else◌, slice_get, unwrap_or}
use Rattle.aq_base.specs.declared.limits.Limits.{Limits}
use Rattle.aq_base.specs.declared.status.Status.{Status}
use Rattle.aq_term.specs.declared.entry.Entry.{Entry}
use Rattle.source_meaning.specs.Program.{Name, Program}
use Rattle.source_meaning.proofs.RuleReading.{one_reading}
use Rattle.bam_code.specs.declared.code.Code.{Code}
use Rattle.bam_code.specs.declared.procedure.Proc.{Proc}
use Rattle.bam_code.specs.declared.signature.Signature.{Signature}
use Rattle.bam_meaning.specs.Instruction.{Instruction}
use Rattle.bam_meaning.specs.Limited.{Budgeted, Stop}
use Rattle.bam_meaning.specs.Linked.{linked, entry_places}
use Rattle.bam_meaning.specs.Finished.{FinishedRun}
use Rattle.bam_meaning.proofs.FinishedLaws.{runs_finish_once}
use Rattle.rule_code.specs.CodeOf.{proc_of}
use Rattle.rule_code.specs.Compiled.{IsCompiled, first_heads, predicate_in}
use Rattle.aquarius_top.specs.declared.ending.Counts.{Counts}
use Rattle.aquarius_top.specs.Answer.{Seen, run_text, run_status}
use Rattle.aquarius_top.specs.Chosen.{IsRuleProgram, IsSupported, Chosen}
use Rattle.aquarius_top.specs.FrontRefusal.{MOST_INPUT}
use Rattle.aquarius_top.specs.Ran.{names_of, begin_at, counts_of, Ran}
use Rattle.aquarius_top.specs.Reply.{RunReply}

same_bool : (a b : Bool) → (IsTrue a → IsTrue b) → (IsTrue b → IsTrue a) → a ≡ b
same_bool true true there back = refl
same_bool false false there back = refl
same_bool true false there back = sym (there refl)
same_bool false true there back = back refl

-- names that are kept by tests that agree
same_kept : (keep other : Name → Bool) → ((name : Name) → keep name ≡ other name) → (names : List Name) → filter keep names ≡ filter other names
same_kept keep other same [] = refl
same_kept keep other same (name ∷ names) = rw (same name, same_kept keep other same names) refl

-- a program has one code over a table of names
one_code : (texts : List Name) (program : Program) (a b : Code) → IsCompiled texts program a → IsCompiled texts program b → a ≡ b
one_code texts program a b is_a is_b =
    let agree : (name : Name) → is_a.keep name ≡ is_b.keep name = λ name.
    same_bool (is_a.keep name) (is_b.keep name)
    (λ kept. (is_b.keeps_reached name).1 ((is_a.keeps_reached name).0 kept))
    (λ kept. (is_a.keeps_reached name).1 ((is_b.keeps_reached name).0 kept)) in
    let kept = same_kept is_a.keep is_b.keep agree (first_heads program.clauses) in
    let procs : a.procs ≡ b.procs =
    is_a.procs_are
    ∙ ap (λ (names : List Name). map proc_of (map (predicate_in texts program.clauses) names)) kept
    ∙ sym is_b.procs_are in
    let entries : a.entries ≡ b.entries = is_a.entries_are ∙ sym is_b.entries_are in
    let imports : a.imports ≡ b.imports = is_a.no_imports ∙ sym is_b.no_imports in
    let pool : a.pool ≡ b.pool = is_a.no_pool ∙ sym is_b.no_pool in
    let with_entries : a ≡ record a { entries = b.entries } = ap (λ (e : List Entry). record a { entries = e }) entries in
    let with_imports : record a { entries = b.entries } ≡ record a { entries = b.entries; imports = b.imports } =
    ap (λ (i : List Signature). record a { entries = b.entries; imports = i }) imports in
    let with_pool : record a { entries = b.entries; imports = b.imports } ≡ record a { entries = b.entries; imports = b.imports; pool = b.pool } =
    ap (λ p. record a { entries = b.entries; imports = b.imports; pool = p }) pool in
    let with_procs : record a { entries = b.entries; imports = b.imports; pool = b.pool } ≡ b =
    ap (λ (p : List Proc). record a { entries = b.entries; imports = b.imports; pool = b.pool; procs = p }) procs in
    with_entries ∙ with_imports ∙ with_pool ∙ with_procs

-- the bytes and the status of a whole run
abbrev text_of : (limits : Limits) (image : List Instruction) (place : ℕ) → FinishedRun limits image (begin_at limits place) → List ℕ
text_of limits image place run = run_text run.events run.stop (counts_of limits image (begin_at limits place) run)

abbrev AreSame : (limits : Limits) (image : List Instruction) (place : ℕ) → FinishedRun limits image (begin_at limits place) → List ℕ → Status → Type 0
AreSame limits image place run bytes answer = (text_of limits image place run ≡ bytes) × (run_status run.events run.stop ≡ answer)

-- two whole runs from one place are written alike
one_run : (limits : Limits) (image : List Instruction) (place : ℕ) (a b : FinishedRun limits image (begin_at limits place))
    → AreSame limits image place a (text_of limits image place b) (run_status b.events b.stop)
one_run limits image place a b =
    let same = runs_finish_once limits image (begin_at limits place) a b in
    let counts : ℕ → ℕ → Counts = λ work tried. record { instructions = length image - 2; steps = work; choices = tried } in (
      ap (λ (events : List Seen). run_text events a.stop (counts a.work a.tried)) same.0
          ∙ ap (λ (stop : Stop). run_text b.events stop (counts a.work a.tried)) same.2
          ∙ ap (λ (work : ℕ). run_text b.events b.stop (counts work a.tried)) same.1
          ∙ ap (λ (tried : ℕ). run_text b.events b.stop (counts b.work tried)) same.3,
      ap (λ (events : List Seen). run_status events a.stop) same.0 ∙ ap (λ (stop : Stop). run_status b.events stop) same.2,
    )

one_place : (places : List ℕ) (a b : ℕ) → slice_get places 0 ≡ Some a → slice_get places 0 ≡ Some b → a ≡ b
one_place places a b is_a is_b = ap (λ (o : Option ℕ). unwrap_or o a) (sym is_a ∙ is_b)

-- runs of one code are written alike
runs_of : (limits : Limits) (a b : Code) (place_a place_b : ℕ) → a ≡ b
    → slice_get (entry_places a) 0 ≡ Some place_a → slice_get (entry_places b) 0 ≡ Some place_b
    → (run_a : FinishedRun limits (linked a) (begin_at limits place_a)) (run_b : FinishedRun limits (linked b) (begin_at limits place_b))
    → AreSame limits (linked a) place_a run_a (text_of limits (linked b) place_b run_b) (run_status run_b.events run_b.stop)
runs_of limits a b place_a place_b same entry_a entry_b run_a =
    let P : Code → Type 0 = λ code. slice_get (entry_places code) 0 ≡ Some place_b → (run_b : FinishedRun limits (linked code) (begin_at limits place_b)) → AreSame limits (linked a) place_a run_a (text_of limits (linked code) place_b run_b) (run_status run_b.events run_b.stop) in
    let Q : ℕ → Type 0 = λ place. (run_b : FinishedRun limits (linked a) (begin_at limits place)) → AreSame limits (linked a) place_a run_a (text_of limits (linked a) place run_b) (run_status run_b.events run_b.stop) in
    subst P same (λ entry. subst Q (one_place (entry_places a) place_a place_b entry_a entry) (one_run limits (linked a) place_a run_a)) entry_b

-- what holds of every second reply, beside the first
abbrev Same : List ℕ → Status → List ℕ → Status → Type 0
Same some first other second = (some ≡ other) × (first ≡ second)

-- a program's run is written in one way
one_ran : (program : Program) (limits : Limits) (some other : List ℕ) (first second : Status)
    → Ran program limits some first → Ran program limits other second → Same some first other second
one_ran program limits some other first second a b =
    let code = one_code (names_of program) program a.code b.code a.compiled b.compiled in
    let same = runs_of limits a.code b.code a.place b.place code a.entry_place b.entry_place a.run b.run in
    (a.bytes_are ∙ same.0 ∙ sym b.bytes_are, a.status_is ∙ same.1 ∙ sym b.status_is)

too_long_or_not : {P : Type 0} (text : List ℕ) → MOST_INPUT < length text → length text ≤ MOST_INPUT → P
too_long_or_not text long within = absurd (omega arith)

-- the program that runs is the one that the text is written from, and its entry is the query
chosen_is : (query : Name) (text : List ℕ) (program : Program) → IsSupported query text → Chosen query text program
    → IsRuleProgram text program × (query ≡ program.entry)
chosen_is query text program supported (Chosen.rules named reads same) = (reads, same)
chosen_is query text program supported (Chosen.other none) = absurd (none supported)

entry_or_not : {P : Type 0} (query : Name) (text : List ℕ) (first second : Program) → IsRuleProgram text first → IsRuleProgram text second
    → query ≢ first.entry → query ≡ second.entry → P
entry_or_not query text first second reads_first reads_second other same =
    let one = one_reading text first second reads_first.reads reads_second.reads in
    absurd (other (same ∙ ap (λ (program : Program). program.entry) (sym one)))

one_chosen : (text : List ℕ) (limits : Limits) (p q : Program) (some other : List ℕ) (first second : Status)
    → IsRuleProgram text p → IsRuleProgram text q → Ran p limits some first → Ran q limits other second → Same some first other second
one_chosen text limits p q some other first second reads_p reads_q ran_p ran_q =
    let one = one_reading text p q reads_p.reads reads_q.reads in
    let again : Ran q limits some first = subst (λ (program : Program). Ran program limits some first) one ran_p in
    one_ran q limits some other first second again ran_q

pub one_reply : (query : Name) (limits : Limits) (text : List ℕ) → IsSupported query text → (some other : List ℕ) (first second : Status)
    → RunReply query limits text some first → RunReply query limits text other second → (some ≡ other) × (first ≡ second)
one_reply query limits text supported _ _ _ _ (RunReply.too_long long) (RunReply.too_long again) = (refl, refl)
one_reply query limits text supported _ _ _ _ (RunReply.too_long long) (RunReply.refused short none cause front) = absurd (none supported)
one_reply query limits text supported _ _ _ _ (RunReply.too_long long) (RunReply.not_entry short named p reads differs) = too_long_or_not text long short
one_reply query limits text supported _ other _ second (RunReply.too_long long) (RunReply.ran short p chosen ran) = too_long_or_not text long short
one_reply query limits text supported _ other _ second (RunReply.refused short none cause front) reply = absurd (none supported)
one_reply query limits text supported _ _ _ _ (RunReply.not_entry short named p reads differs) (RunReply.too_long long) = too_long_or_not text long short
one_reply query limits text supported _ _ _ _ (RunReply.not_entry short named p reads differs) (RunReply.refused again none cause front) = absurd (none supported)
one_reply query limits text supported _ _ _ _ (RunReply.not_entry short named p reads differs) (RunReply.not_entry again named_too q reads_q differs_too) = (refl, refl)
one_reply query limits text supported _ other _ second (RunReply.not_entry short named p reads differs) (RunReply.ran again q chosen ran) =
    let is = chosen_is query text q supported chosen in entry_or_not query text p q reads is.0 differs is.1
one_reply query limits text supported some _ first _ (RunReply.ran short p chosen ran) (RunReply.too_long long) = too_long_or_not text long short
one_reply query limits text supported some _ first _ (RunReply.ran short p chosen ran) (RunReply.refused again none cause front) = absurd (none supported)
one_reply query limits text supported some _ first _ (RunReply.ran short p chosen ran) (RunReply.not_entry again named q reads differs) =
    let is = chosen_is query text p supported chosen in entry_or_not query text q p reads is.0 differs is.1
one_reply query limits text supported some other first second (RunReply.ran short p chosen ran) (RunReply.ran again q chosen_q ran_q) =
    one_chosen text limits p q some other first second (chosen_is query text p supported chosen).0 (chosen_is query text q supported chosen_q).0 ran ran_q
