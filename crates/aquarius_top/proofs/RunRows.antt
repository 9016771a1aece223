-- A run of an image, as the code writes it, and the run of the program whose image it is.
use Rattle.std.proofs.Common.{◌≡◌, ◌≢◌, ℕ, ◌+◌, ◌-◌, ◌<◌, ◌≤◌, Bool, true, false, cond, List, [], ◌∷◌, ◌++◌, Option, Some, length, take, drop, refl, sym, ap, subst, ◌∙◌, append_assoc, append-nil, length-append, arith}
use Rattle.std.specs.Prelude.{slice_get}
use Rattle.std.specs.Io.KnownBytes.{Appends}
use Rattle.std.proofs.lemmas.List.{take-append-drop, take_at}
use Rattle.aq_base.proofs.KnownBytes.{Appends-more}
use Rattle.aq_base.specs.declared.limits.Limits.{Limits}
use Rattle.aq_base.specs.declared.status.Status.{Status}
use Rattle.aq_base.specs.declared.status.Status.TheVariants as status
use Rattle.run_meaning.specs.Machine.{Run, IsPrefix, after, over}
use Rattle.run_meaning.specs.Written.{NEW_LINE, at_line_start, on_fresh_line}
use Rattle.source_meaning.specs.Program.{Program}
use Rattle.source_meaning.specs.SourceStep as source
use Rattle.bam_meaning.specs.Instruction.{Instruction}
use Rattle.bam_meaning.specs.State.{start_at}
use Rattle.bam_meaning.specs.Step.{Ending, exhausted, wrong}
use Rattle.bam_meaning.specs.Limited.{Stop, finished, out_of_steps, out_of_area, Budgeted, limited}
use Rattle.bam_meaning.specs.Linked.{linked, entry_places}
use Rattle.bam_meaning.specs.Finished.{NeverWrong, FinishedRun}
use Rattle.bam_link.specs.Shown.{Linked}
use Rattle.bam_machine.specs.declared.end.End.{End}
use Rattle.bam_machine.specs.declared.end.End.TheVariants as end
use Rattle.bam_machine.specs.Running.{Running}
use Rattle.bam_machine.specs.Outcome.{IsEndOf}
use Rattle.bam_machine.specs.Runs.{new_machine}
use Rattle.bam_machine.specs.Stands.{Stands}
use Rattle.bam_machine.specs.ToEnd.{bytes_of, has_solution, ToEnd, RunsToEnd, CutShort, RunsToFault}
use Rattle.rule_code.specs.Law.{LimitedKeeps}
use Rattle.rule_code.proofs.CompiledLaws.{compiled_code_has_entry, compiled_code_keeps_rules, compiled_code_runs}
use Rattle.aquarius_top.specs.declared.ending.Counts.{Counts}
use Rattle.aquarius_top.specs.Answer.{Seen, ending_line, counts_line, run_text, run_status, exhausted_status}
use Rattle.aquarius_top.specs.Ending.{line_for, status_for, last_lines}
use Rattle.aquarius_top.specs.Ran.{names_of, begin_at, counts_of, AreOfProgram, Ran, IsImageOf, Runs}
use Rattle.aquarius_top.specs.Reply.{WritesFront}
use Rattle.aquarius_top.proofs.PieceLemmas.{front_taken}

pub has_entry : (program : Program) (image : Linked) → IsImageOf program image → length image.entries ≡ 1
has_entry program image is =
    ap (λ (i : Linked). length i.entries) is.image_is ∙ compiled_code_has_entry (names_of program) program is.code is.compiled

first_of : (places : List ℕ) → length places ≡ 1 → (place : ℕ) × (slice_get places 0 ≡ Some place)
first_of [] one = absurd (let no : ⊥ = cc in no)
first_of (place ∷ places) one = (place, refl)

pub entry_of : (program : Program) (image : Linked) → IsImageOf program image → (place : ℕ) × (slice_get image.entries 0 ≡ Some place)
entry_of program image is = first_of image.entries (has_entry program image is)

pub never_wrong : (program : Program) (image : Linked) (limits : Limits) (place : ℕ) → IsImageOf program image
    → slice_get image.entries 0 ≡ Some place → NeverWrong limits image.instructions (begin_at limits place)
never_wrong program image limits place is =
    let P : Linked → Type 0 = λ i. slice_get i.entries 0 ≡ Some place → NeverWrong limits i.instructions (begin_at limits place) in
    subst P (sym is.image_is) (λ entry. (compiled_code_runs (names_of program) program is.code is.compiled place entry limits limits.steps).0)

-- what holds of the events of a run and how it is over
of_program : (program : Program) (limits : Limits) (image : List Instruction) (start : Budgeted)
    → LimitedKeeps program limits image (source.query_state program.entry) start → (run : FinishedRun limits image start)
    → AreOfProgram program run.events run.stop
of_program program limits image start keeps run =
    let P : Run Seen Stop Budgeted → Type 0 = λ r. (n : ℕ) × IsPrefix r.events (after (source.source_step program) n (source.query_state program.entry)).events × ((ending : Ending) → r.stand ≡ over (finished ending) → (ending ≡ exhausted) × ((after (source.source_step program) n (source.query_state program.entry)).stand ≡ over source.exhausted) × (r.events ≡ (after (source.source_step program) n (source.query_state program.entry)).events)) in
    let kept = subst P run.is_over (keeps run.steps) in
    (kept.0, kept.1, λ ending is. kept.2 ending (ap over is))

-- a run of the image is one of the program
pub ran_of : (program : Program) (image : Linked) (limits : Limits) (bytes : List ℕ) (answer : Status) → IsImageOf program image
    → Runs image limits bytes answer → Ran program limits bytes answer
ran_of program image limits bytes answer is =
    let P : Linked → Type 0 = λ i. Runs i limits bytes answer → Ran program limits bytes answer in
    let made : Runs (record { instructions = linked is.code; entries = entry_places is.code }) limits bytes answer → Ran program limits bytes answer = λ runs.
    let keeps = compiled_code_keeps_rules (names_of program) program is.code is.compiled runs.place runs.entry_place in record {
      code = is.code;
      compiled = is.compiled;
      place = runs.place;
      entry_place = runs.entry_place;
      follows = keeps.0;
      covers = keeps.1;
      run = runs.run;
      of_program = of_program program limits (linked is.code) (begin_at limits runs.place) (compiled_code_runs (names_of program) program is.code is.compiled runs.place runs.entry_place limits limits.steps).1 runs.run;
      bytes_are = runs.bytes_are;
      status_is = runs.status_is;
    } in
    subst P (sym is.image_is) made

-- the machine as it is started
abbrev pub started : Linked → Limits → ℕ → Running
started image limits place = record (new_machine image limits) { place = place }

pub ends_from : (program : Program) (image : Linked) (limits : Limits) (place : ℕ) (m new : Running) (e : End) (solved : Bool)
    (before now : Option (List ℕ)) → IsImageOf program image → slice_get image.entries 0 ≡ Some place → m ≡ started image limits place
    → Stands m limits.steps (start_at place) → RunsToEnd m new e before now solved
    → ToEnd (started image limits place) new e before now solved (begin_at limits place)
ends_from program image limits place m new e solved before now is entry same stands ends =
    let P : Running → Type 0 = λ r. RunsToEnd r new e before now solved in
    let Q : Running → Type 0 = λ r. Stands r limits.steps (start_at place) in
    (subst P same ends) limits.steps (start_at place) (subst Q same stands) (never_wrong program image limits place is entry)

pub cut_from : (program : Program) (image : Linked) (limits : Limits) (place : ℕ) (m : Running) (before now : Option (List ℕ))
    → IsImageOf program image → slice_get image.entries 0 ≡ Some place → m ≡ started image limits place
    → Stands m limits.steps (start_at place) → RunsToFault m before now → CutShort (started image limits place) before now (begin_at limits place)
cut_from program image limits place m before now is entry same stands cut =
    let P : Running → Type 0 = λ r. RunsToFault r before now in
    let Q : Running → Type 0 = λ r. Stands r limits.steps (start_at place) in
    (subst P same cut) limits.steps (start_at place) (subst Q same stands) (never_wrong program image limits place is entry)

line_is : (stop : Stop) (e : End) → IsEndOf stop e → line_for e ≡ ending_line stop
line_is (finished exhausted) e is = ap line_for is
line_is (finished wrong) e is = absurd is
line_is out_of_steps e is = ap line_for is
line_is (out_of_area name) e is = ap line_for is

status_is : (events : List Seen) (stop : Stop) (e : End) (solved : Bool) → IsEndOf stop e → solved ≡ has_solution events
    → status_for e solved ≡ run_status events stop
status_is events (finished exhausted) e solved is same =
    ap (λ (x : End). status_for x solved) is ∙ ap exhausted_status same
status_is events (finished wrong) e solved is same = absurd is
status_is events out_of_steps e solved is same = ap (λ (x : End). status_for x solved) is
status_is events (out_of_area name) e solved is same = ap (λ (x : End). status_for x solved) is

joined_text : (bytes line rest : List ℕ) → ((bytes ++ line) ++ NEW_LINE ∷ []) ++ rest ≡ bytes ++ (line ++ NEW_LINE ∷ rest)
joined_text bytes line rest = append_assoc (bytes ++ line) (NEW_LINE ∷ []) rest ∙ append_assoc bytes line (NEW_LINE ∷ rest)

-- the bytes that are written are those of the run
text_is : (events : List Seen) (stop : Stop) (e : End) (counts : Counts) → at_line_start (bytes_of events) ≡ true → IsEndOf stop e
    → bytes_of events ++ last_lines (line_for e) counts ≡ run_text events stop counts
text_is events stop e counts starts is =
    let fresh : on_fresh_line (bytes_of events) ≡ bytes_of events =
    ap (λ (v : Bool). cond v (bytes_of events) (bytes_of events ++ NEW_LINE ∷ [])) starts in
    ap (λ (line : List ℕ). bytes_of events ++ last_lines line counts) (line_is stop e is)
    ∙ sym (joined_text (bytes_of events) (ending_line stop) (counts_line counts ++ NEW_LINE ∷ []))
    ∙ ap (λ (bytes : List ℕ). ((bytes ++ ending_line stop) ++ NEW_LINE ∷ []) ++ (counts_line counts ++ NEW_LINE ∷ [])) (sym fresh)

same_counts : (counts : Counts) (a b d : ℕ) → counts.instructions ≡ a → counts.steps ≡ b → counts.choices ≡ d
    → counts ≡ record { instructions = a; steps = b; choices = d }
same_counts counts a b d x y z = λ i. record { instructions = x i; steps = y i; choices = z i }

-- a run that ended, with its counts
record Ended (image : Linked) (limits : Limits) (place : ℕ) (e : End) (solved : Bool) (counts : Counts) (events : List Seen) : Type 0 where
  pub bytes : List ℕ
  pub runs : Runs image limits bytes (status_for e solved)
  pub bytes_are : bytes ≡ bytes_of events ++ last_lines (line_for e) counts

ended_from : (image : Linked) (limits : Limits) (place : ℕ) (new : Running) (e : End) (solved : Bool) (counts : Counts)
    (before now : Option (List ℕ)) → slice_get image.entries 0 ≡ Some place
    → (to : ToEnd (started image limits place) new e before now solved (begin_at limits place))
    → counts.instructions ≡ length image.instructions - 2 → counts.steps ≡ new.steps → counts.choices ≡ new.tried
    → Ended image limits place e solved counts to.run.events
ended_from image limits place new e solved counts before now entry to instructions steps choices =
    let from_none : 0 + to.run.work ≡ to.run.work = omega arith in
    let counts_are : counts ≡ counts_of limits image.instructions (begin_at limits place) to.run =
    same_counts counts _ _ _ instructions (steps ∙ to.steps_are ∙ from_none) (choices ∙ to.tried_are) in
    let text = text_is to.run.events to.run.stop e counts to.starts to.is_end in
    record {
      bytes = bytes_of to.run.events ++ last_lines (line_for e) counts;
      runs = record {
        place = place;
        entry_place = entry;
        run = to.run;
        bytes_are = text ∙ ap (run_text to.run.events to.run.stop) counts_are;
        status_is = status_is to.run.events to.run.stop e solved to.is_end to.solved_is;
      };
      bytes_are = refl;
    }

-- the ending is written whole
pub whole_run : (image : Linked) (limits : Limits) (place : ℕ) (new : Running) (e : End) (solved : Bool) (counts : Counts)
    (before mid now : Option (List ℕ)) → slice_get image.entries 0 ≡ Some place
    → ToEnd (started image limits place) new e before mid solved (begin_at limits place)
    → counts.instructions ≡ length image.instructions - 2 → counts.steps ≡ new.steps → counts.choices ≡ new.tried
    → Appends mid now (last_lines (line_for e) counts)
    → (bytes : List ℕ) × Runs image limits bytes (status_for e solved) × Appends before now bytes
whole_run image limits place new e solved counts before mid now entry to instructions steps choices wrote =
    let ended = ended_from image limits place new e solved counts before mid entry to instructions steps choices in (
      ended.bytes,
      ended.runs,
      subst (Appends before now) (sym ended.bytes_are) (Appends-more before mid now (bytes_of to.run.events) (last_lines (line_for e) counts) to.wrote wrote),
    )

-- a part of the ending is written
pub front_run : (image : Linked) (limits : Limits) (place : ℕ) (new : Running) (e : End) (solved : Bool) (counts : Counts)
    (before mid now : Option (List ℕ)) (n : ℕ) → slice_get image.entries 0 ≡ Some place
    → ToEnd (started image limits place) new e before mid solved (begin_at limits place)
    → counts.instructions ≡ length image.instructions - 2 → counts.steps ≡ new.steps → counts.choices ≡ new.tried
    → n ≤ length (last_lines (line_for e) counts) → Appends mid now (take n (last_lines (line_for e) counts))
    → WritesFront (Runs image limits) before now
front_run image limits place new e solved counts before mid now n entry to instructions steps choices within wrote =
    let ended = ended_from image limits place new e solved counts before mid entry to instructions steps choices in
    let lines : List ℕ = last_lines (line_for e) counts in
    let front = front_taken before mid now (bytes_of to.run.events) lines [] n within to.wrote wrote in
    let whole : bytes_of to.run.events ++ (lines ++ []) ≡ ended.bytes =
    ap (λ (rest : List ℕ). bytes_of to.run.events ++ rest) (append-nil lines) ∙ sym ended.bytes_are in
    let P : List ℕ → Type 0 = λ bytes. (m : ℕ) × (m ≤ length bytes) × Appends before now (take m bytes) in
    let taken = subst P whole front in
    (ended.bytes, status_for e solved, taken.0, ended.runs, taken.1, taken.2)

fresh_front : (v : Bool) (bytes : List ℕ) → (rest : List ℕ) × (cond v bytes (bytes ++ NEW_LINE ∷ []) ≡ bytes ++ rest)
fresh_front true bytes = ([], sym (append-nil bytes))
fresh_front false bytes = (NEW_LINE ∷ [], refl)

cut_front : (bytes rest : List ℕ) (count : ℕ) → (m : ℕ) × (m ≤ length (bytes ++ rest)) × (take count bytes ≡ take m (bytes ++ rest))
cut_front bytes rest count =
    let split : bytes ++ rest ≡ take count bytes ++ (drop count bytes ++ rest) =
    ap (λ (all : List ℕ). all ++ rest) (sym (take-append-drop count bytes)) ∙ append_assoc (take count bytes) (drop count bytes) rest in
    let size : length (bytes ++ rest) ≡ length (take count bytes) + length (drop count bytes ++ rest) =
    ap length split ∙ length-append (take count bytes) (drop count bytes ++ rest) in (
      length (take count bytes),
      omega (arith, size),
      sym (ap (take (length (take count bytes))) split ∙ take_at (take count bytes) (drop count bytes ++ rest) (length (take count bytes)) refl),
    )

-- a run whose answers were cut short
pub short_run : (image : Linked) (limits : Limits) (place : ℕ) (before now : Option (List ℕ)) → slice_get image.entries 0 ≡ Some place
    → CutShort (started image limits place) before now (begin_at limits place) → WritesFront (Runs image limits) before now
short_run image limits place before now entry cut =
    let events : List Seen = cut.run.events in
    let stop : Stop = cut.run.stop in
    let counts : Counts = counts_of limits image.instructions (begin_at limits place) cut.run in
    let last : List ℕ = counts_line counts ++ NEW_LINE ∷ [] in
    let fresh = fresh_front (at_line_start (bytes_of events)) (bytes_of events) in
    let rest : List ℕ = fresh.0 ++ (ending_line stop ++ NEW_LINE ∷ last) in
    let whole : run_text events stop counts ≡ bytes_of events ++ rest =
    joined_text (on_fresh_line (bytes_of events)) (ending_line stop) last
    ∙ ap (λ (bytes : List ℕ). bytes ++ (ending_line stop ++ NEW_LINE ∷ last)) fresh.1
    ∙ append_assoc (bytes_of events) fresh.0 (ending_line stop ++ NEW_LINE ∷ last) in
    let front = cut_front (bytes_of events) rest cut.count in
    let P : List ℕ → Type 0 = λ bytes. (m : ℕ) × (m ≤ length bytes) × (take cut.count (bytes_of events) ≡ take m bytes) in
    let taken = subst P (sym whole) front in (
      run_text events stop counts,
      run_status events stop,
      taken.0,
      record { place = place; entry_place = entry; run = cut.run; bytes_are = refl; status_is = refl },
      taken.1,
      subst (Appends before now) taken.2 cut.wrote,
    )

-- a machine that stands at the start of an image of some program
pub record Begun (image : Linked) (limits : Limits) (m : Running) : Type 0 where
  pub program : Program
  pub is_image : IsImageOf program image
  pub place : ℕ
  pub entry : slice_get image.entries 0 ≡ Some place
  pub same : m ≡ started image limits place
  pub stands : Stands m limits.steps (start_at place)

pub begun : (image : Linked) (limits : Limits) → (program : Program) × IsImageOf program image → (opened m : Running)
    → opened ≡ new_machine image limits
    → ((place : ℕ) → slice_get opened.image.entries 0 ≡ Some place → m ≡ record opened { place = place })
    → ((place : ℕ) → slice_get opened.image.entries 0 ≡ Some place → Stands m opened.limits.steps (start_at place))
    → Begun image limits m
begun image limits some opened m new begins stands =
    let entry = entry_of some.0 image some.1 in
    let P : Running → Type 0 = λ r. slice_get r.image.entries 0 ≡ Some entry.0 in
    let Q : Running → Type 0 = λ r. Stands m r.limits.steps (start_at entry.0) in
    let there = subst P (sym new) entry.1 in
    record {
      program = some.0;
      is_image = some.1;
      place = entry.0;
      entry = entry.1;
      same = begins entry.0 there ∙ ap (λ (r : Running). record r { place = entry.0 }) new;
      stands = subst Q new (stands entry.0 there);
    }

pub begun_short : (image : Linked) (limits : Limits) (m : Running) (before now : Option (List ℕ)) → Begun image limits m
    → RunsToFault m before now → WritesFront (Runs image limits) before now
begun_short image limits m before now b cut =
    short_run image limits b.place before now b.entry (cut_from b.program image limits b.place m before now b.is_image b.entry b.same b.stands cut)

pub begun_whole : (image : Linked) (limits : Limits) (m new : Running) (e : End) (solved : Bool) (counts : Counts)
    (before mid now : Option (List ℕ)) → Begun image limits m → RunsToEnd m new e before mid solved
    → counts.instructions ≡ length image.instructions - 2 → counts.steps ≡ new.steps → counts.choices ≡ new.tried
    → Appends mid now (last_lines (line_for e) counts)
    → (bytes : List ℕ) × Runs image limits bytes (status_for e solved) × Appends before now bytes
begun_whole image limits m new e solved counts before mid now b ends =
    whole_run image limits b.place new e solved counts before mid now b.entry (ends_from b.program image limits b.place m new e solved before mid b.is_image b.entry b.same b.stands ends)

pub begun_front : (image : Linked) (limits : Limits) (m new : Running) (e : End) (solved : Bool) (counts : Counts)
    (before mid now : Option (List ℕ)) (n : ℕ) → Begun image limits m → RunsToEnd m new e before mid solved
    → counts.instructions ≡ length image.instructions - 2 → counts.steps ≡ new.steps → counts.choices ≡ new.tried
    → n ≤ length (last_lines (line_for e) counts) → Appends mid now (take n (last_lines (line_for e) counts))
    → WritesFront (Runs image limits) before now
begun_front image limits m new e solved counts before mid now n b ends =
    front_run image limits b.place new e solved counts before mid now n b.entry (ends_from b.program image limits b.place m new e solved before mid b.is_image b.entry b.same b.stands ends)

-- the status of an ending is none of the others
pub record IsEnding (answer : Status) : Type 0 where
  pub no_write : answer ≢ status.WriteFault
  pub no_memory : answer ≢ status.Memory
  pub no_read : answer ≢ status.ReadFault

pub is_ending : (e : End) (solved : Bool) → e ≢ end.Solution → e ≢ end.WriteFault → IsEnding (status_for e solved)
is_ending end.Solution solved some none = absurd (some refl)
is_ending end.Exhausted true some none =
    record { no_write = λ is. let no : ⊥ = cc in no; no_memory = λ is. let no : ⊥ = cc in no; no_read = λ is. let no : ⊥ = cc in no }
is_ending end.Exhausted false some none =
    record { no_write = λ is. let no : ⊥ = cc in no; no_memory = λ is. let no : ⊥ = cc in no; no_read = λ is. let no : ⊥ = cc in no }
is_ending end.Raised solved some none =
    record { no_write = λ is. let no : ⊥ = cc in no; no_memory = λ is. let no : ⊥ = cc in no; no_read = λ is. let no : ⊥ = cc in no }
is_ending end.StepLimit solved some none =
    record { no_write = λ is. let no : ⊥ = cc in no; no_memory = λ is. let no : ⊥ = cc in no; no_read = λ is. let no : ⊥ = cc in no }
is_ending (end.AreaLimit name) solved some none =
    record { no_write = λ is. let no : ⊥ = cc in no; no_memory = λ is. let no : ⊥ = cc in no; no_read = λ is. let no : ⊥ = cc in no }
is_ending end.WriteFault solved some none = absurd (none refl)
is_ending end.Stray solved some none =
    record { no_write = λ is. let no : ⊥ = cc in no; no_memory = λ is. let no : ⊥ = cc in no; no_read = λ is. let no : ⊥ = cc in no }
