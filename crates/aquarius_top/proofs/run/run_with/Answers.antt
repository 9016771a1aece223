use Rattle.std.proofs.Common.{◌≡◌, ◌≢◌, ◌≤◌, ◌-◌, ℕ, Bool, List, Option, Some, None, length, take, refl, sym, ap, subst, ◌∙◌, arith, rules}
use Rattle.std.specs.Prelude.{IsTrue}
use Rattle.std.specs.Io.KnownBytes.{Appends}
use Rattle.aq_base.specs.Faults.{HasRisen}
use Rattle.aq_base.specs.declared.status.Status.{Status}
use Rattle.bam_machine.specs.Running.{Running}
use Rattle.bam_machine.specs.declared.end.End.{End}
use Rattle.bam_machine.specs.declared.end.End.TheVariants as end
use Rattle.aquarius_top.specs.declared.ending.Counts.{Counts}
use Rattle.bam_machine.specs.ToEnd.{RunsToEnd}
use Rattle.aquarius_top.specs.Ending.{line_for, status_for, last_lines}
use Rattle.aquarius_top.specs.Ran.{Runs}
use Rattle.aquarius_top.specs.Reply.{is_reply, WritesWhole, WritesFront}
use Rattle.aquarius_top.proofs.RunRows.{Begun, begun, begun_short, begun_whole, begun_front, IsEnding, is_ending}
use Rattle.aquarius_top.proofs.run.run_with.Goals as goal

pub returns-in-WriteFault-clause-write : goal.returns-in-WriteFault-clause-write
returns-in-WriteFault-clause-write g c = λ is.
    let b = begun c.args.image.now c.args.limits.now c.requires.image c.in-Ok.machine c.start_entry.new.self c.in-Ok.ensures c.start_entry.ensures.begins c.start_entry.ensures.stands in (
      c.run_to_end-ended.ensures.fault (λ was. let over : c.start_entry.new.self.over_by ≡ None = c.start_entry.ensures.not_over in let no : ⊥ = cc in no) c.in-WriteFault.is,
      begun_short c.args.image.now c.args.limits.now c.start_entry.new.self (g.K.Sink.taken c.args.sink.now) (g.K.Sink.taken c.run_to_end-ended.new.sink) b (c.run_to_end-ended.ensures.cut_short c.in-WriteFault.is),
    )

pub returns-in-Ok-write_ending : goal.returns-in-Ok-write_ending
returns-in-Ok-write_ending g c =
    let b = begun c.args.image.now c.args.limits.now c.requires.image c.in-Ok.machine c.start_entry.new.self c.in-Ok.ensures c.start_entry.ensures.begins c.start_entry.ensures.stands in
    let e : End = c.run_to_end-ended.result.end in
    let solved : Bool = c.run_to_end-ended.result.solved in
    let counts : Counts = record { instructions = c.instructions.result; steps = c.steps.result; choices = c.choices.result } in
    let before : Option (List ℕ) = g.K.Sink.taken c.args.sink.now in
    let mid : Option (List ℕ) = g.K.Sink.taken c.run_to_end-ended.new.sink in
    let now : Option (List ℕ) = g.K.Sink.taken c.write_ending.new.sink in
    let ends = c.run_to_end-ended.ensures.ends c.in_default-end.not-WriteFault in
    let same : c.ending_status.result ≡ status_for e solved = c.ending_status.ensures in
    let lines : Appends mid now (last_lines (line_for e) counts) =
    subst (λ (line : List ℕ). Appends mid now (last_lines line counts)) c.ending_line.ensures (c.in-Ok-write_ending.ensures.whole) in
    let whole = begun_whole c.args.image.now c.args.limits.now c.start_entry.new.self c.run_to_end-ended.new.self e solved counts before mid now b ends c.instructions.ensures c.steps.ensures c.choices.ensures lines in
    let P : Status → Type 0 = λ answer. (bytes : List ℕ) × Runs c.args.image.now c.args.limits.now bytes answer × Appends before now bytes in
    let ending : IsEnding (status_for e solved) =
    is_ending e solved c.run_to_end-ended.ensures.not_solution c.in_default-end.not-WriteFault in
    record {
      done = λ reply. subst P (sym same) whole;
      write = λ is. absurd (ending.no_write (sym same ∙ is));
      memory = λ is. absurd (ending.no_memory (sym same ∙ is));
      no_read = λ is. ending.no_read (sym same ∙ is);
    }

pub returns : goal.returns
returns g c =
    let b = begun c.args.image.now c.args.limits.now c.requires.image c.in-Ok.machine c.start_entry.new.self c.in-Ok.ensures c.start_entry.ensures.begins c.start_entry.ensures.stands in
    let e : End = c.run_to_end-ended.result.end in
    let solved : Bool = c.run_to_end-ended.result.solved in
    let counts : Counts = record { instructions = c.instructions.result; steps = c.steps.result; choices = c.choices.result } in
    let before : Option (List ℕ) = g.K.Sink.taken c.args.sink.now in
    let mid : Option (List ℕ) = g.K.Sink.taken c.run_to_end-ended.new.sink in
    let now : Option (List ℕ) = g.K.Sink.taken c.write_ending.new.sink in
    let ends = c.run_to_end-ended.ensures.ends c.in_default-end.not-WriteFault in
    let R : List ℕ → Type 0 = λ line. (n : ℕ) × (n ≤ length (last_lines line counts)) × Appends mid now (take n (last_lines line counts)) in
    let cut = subst R c.ending_line.ensures c.in-Err.ensures.front in
    let front = begun_front c.args.image.now c.args.limits.now c.start_entry.new.self c.run_to_end-ended.new.self e solved counts before mid now cut.0 b ends c.instructions.ensures c.steps.ensures c.choices.ensures cut.1 cut.2 in
    let risen : HasRisen (g.K.Sink.faults c.run_to_end-ended.new.sink) (g.K.Sink.faults c.write_ending.new.sink) = c.in-Err.ensures.failed in
    record {
      done = λ none. absurd (let no : ⊥ = cc in no);
      write = λ is. (omega (arith, risen, c.run_to_end-ended.ensures.never_falls), front);
      memory = λ is. absurd (let no : ⊥ = cc in no);
      no_read = λ is. let no : ⊥ = cc in no;
    }
