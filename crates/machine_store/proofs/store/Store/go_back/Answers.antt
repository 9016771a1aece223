use Rattle.std.proofs.Common.{◌≡◌, ◌≢◌, ◌∷◌, ◌+◌, ◌-◌, ◌/◌, ◌%◌, ◌^◌, ◌<◌, ◌≤◌, [], length, sym, ap, ◌∙◌, refl, arith}
use Rattle.tag_word.specs.Tagged.{Tagged}
use Rattle.bam_meaning.specs.Frame.{newest_end}
use Rattle.bam_meaning.specs.Choice.{choice_need, env_need}
use Rattle.machine_store.specs.Areas.{Areas, place_word, index_word, link_word}
use Rattle.machine_store.specs.Stands.{choice_area, newest_link}
use Rattle.machine_store.specs.contracts.store.Store.{the_view}
use Rattle.machine_store.proofs.DerefsLemmas.{same_some}
use Rattle.machine_store.proofs.UndoLemmas.{nothing_undone}
use Rattle.machine_store.proofs.StandsLemmas.{newest_of, newest_long, newest_alternative, newest_return, newest_frame, newest_env, newest_catchers, newest_below, link_read, slots_fit}
use Rattle.machine_store.proofs.store.Store.go_back.Goals as goal
use Rattle.machine_store.proofs.store.Store.go_back.Goals.{then-below-end-via-then-below-end, then-below-end-via-else-below-end+then-env-most, then-below-end-via-else-below-end+else-env-most+then-active-count}

pub returns-then-below-end-clause-there : goal.returns-then-below-end-clause-there
returns-then-below-end-clause-there c = λ had.
    let is : c.self.inside.choice.words ≡ choice_area (had.choice ∷ had.choices) = ap (λ (a : Areas). a.choice) c.self.view_is ∙ had.stands.choice_is in
    let below : c.value_at-below.result ≡ choice_need had.choices = c.value_at-below.ensures (index_word (choice_need had.choices)) (rw c.len-end.ensures.len (newest_below _ had.choice had.choices is)) in
    let env : c.value_at-env.result ≡ had.choice.env = c.value_at-env.ensures (index_word had.choice.env) (rw c.len-end.ensures.len (newest_env _ had.choice had.choices is)) in
    let long = newest_long _ had.choice had.choices is in
    let env_long : length c.self.inside.env.words ≡ env_need had.frames (had.choice ∷ had.choices) = ap (λ (a : Areas). length a.env) c.self.view_is ∙ had.stands.env_length in
    let none : c.get-2.result ≡ link_word 0 0 = same_some _ _ (sym c.get-2.ensures ∙ rw c.len-end.ensures.len (newest_catchers _ had.choice had.choices is)) in
    let active : c.of-active.result.count ≡ 0 = c.of-active.ensures.count ∙ ap (λ (w : Tagged). w.value / 2 ^ 32) none in
    let bad : ⊥ = elim c.then-below-end.branch [
      | then-below-end-via-then-below-end w ↦ omega (arith, w.if-below-end.true, below, long, c.len-end.ensures.len)
      | then-below-end-via-else-below-end+then-env-most w ↦ omega (arith, w.if-env-most.true, env, env_long, c.len-most.ensures.len)
      | then-below-end-via-else-below-end+else-env-most+then-active-count w ↦ omega (arith, w.if-active-count.true, active)
    ] in
    absurd bad

pub returns-then-kept-regs-clause-there : goal.returns-then-kept-regs-clause-there
returns-then-kept-regs-clause-there c = λ had.
    let is : c.self.inside.choice.words ≡ choice_area (had.choice ∷ had.choices) = ap (λ (a : Areas). a.choice) c.self.view_is ∙ had.stands.choice_is in
    let below : c.value_at-below.result ≡ choice_need had.choices = c.value_at-below.ensures (index_word (choice_need had.choices)) (rw c.len-end.ensures.len (newest_below _ had.choice had.choices is)) in
    let long = newest_long _ had.choice had.choices is in
    absurd (omega (arith, c.if-kept-regs.true, had.within, below, long, c.len-end.ensures.len))

pub returns-then-not-is_frame_within-clause-there : goal.returns-then-not-is_frame_within-clause-there
returns-then-not-is_frame_within-clause-there c = λ had.
    let is : c.self.inside.choice.words ≡ choice_area (had.choice ∷ had.choices) = ap (λ (a : Areas). a.choice) c.self.view_is ∙ had.stands.choice_is in
    let env : c.value_at-env.result ≡ had.choice.env = c.value_at-env.ensures (index_word had.choice.env) (rw c.len-end.ensures.len (newest_env _ had.choice had.choices is)) in
    let env_long : length c.self.inside.env.words ≡ env_need had.frames (had.choice ∷ had.choices) = ap (λ (a : Areas). length a.env) c.self.view_is ∙ had.stands.env_length in
    let own : newest_end had.choice.frames ≤ had.choice.env = had.stands.choices_stand.0.frames_protected in
    let small : newest_end had.choice.frames < 2 ^ 32 = omega (arith, own, env_long, c.len-most.ensures.len, c.len-most.ensures.within, c.len-most.ensures.small) in
    let frame : c.get.result ≡ newest_link had.choice.frames = same_some _ _ (sym c.get.ensures ∙ rw c.len-end.ensures.len (newest_frame _ had.choice had.choices is)) in
    let read = link_read had.choice.frames c.get.result c.of-frame.result.count c.of-frame.result.end small frame c.of-frame.ensures.count c.of-frame.ensures.end in
    let fit = slots_fit had.choice.frames in
    let yes = c.is_frame_within.ensures.1 (omega (arith, read.1, own, env), omega (arith, read.0, read.1, fit)) in
    let no = c.if-not-is_frame_within.true in
    let bad : ⊥ = cc in
    absurd bad

pub returns-clause-restores : goal.returns-clause-restores
returns-clause-restores c = λ choice frames choices standing.
    let is : c.self.inside.choice.words ≡ choice_area (choice ∷ choices) = ap (λ (a : Areas). a.choice) c.self.view_is ∙ standing.choice_is in
    let below : c.value_at-below.result ≡ choice_need choices = c.value_at-below.ensures (index_word (choice_need choices)) (rw c.len-end.ensures.len (newest_below _ choice choices is)) in
    let env : c.value_at-env.result ≡ choice.env = c.value_at-env.ensures (index_word choice.env) (rw c.len-end.ensures.len (newest_env _ choice choices is)) in
    let long = newest_long _ choice choices is in
    let count : c.len-end.result - 8 - c.value_at-below.result ≡ length choice.registers = omega (arith, below, long, c.len-end.ensures.len) in
    let env_long : length c.self.inside.env.words ≡ env_need frames (choice ∷ choices) = ap (λ (a : Areas). length a.env) c.self.view_is ∙ standing.env_length in
    let own : newest_end choice.frames ≤ choice.env = standing.choices_stand.0.frames_protected in
    let small : newest_end choice.frames < 2 ^ 32 = omega (arith, own, env_long, c.len-most.ensures.len, c.len-most.ensures.within, c.len-most.ensures.small) in
    let frame : c.get.result ≡ newest_link choice.frames = same_some _ _ (sym c.get.ensures ∙ rw c.len-end.ensures.len (newest_frame _ choice choices is)) in
    let read = link_read choice.frames c.get.result c.of-frame.result.count c.of-frame.result.end small frame c.of-frame.ensures.count c.of-frame.ensures.end in
    let none : c.get-2.result ≡ link_word 0 0 = same_some _ _ (sym c.get-2.ensures ∙ rw c.len-end.ensures.len (newest_catchers _ choice choices is)) in
    let active_count : c.of-active.result.count ≡ c.args.self.now.catchers = c.of-active.ensures.count ∙ ap (λ (w : Tagged). w.value / 2 ^ 32) none ∙ sym standing.catchers_is in
    let active_end : c.of-active.result.end ≡ c.args.self.now.active = c.of-active.ensures.end ∙ ap (λ (w : Tagged). w.value % 2 ^ 32) none ∙ sym standing.active_is in
    let need : env_need choice.frames (choice ∷ choices) ≡ choice.env = omega (arith, own) in
    let no_heap : c.self.inside.heap.words ≡ [] = ap (λ (a : Areas). a.heap) c.self.view_is ∙ standing.heap_is in
    let no_trail : c.self.inside.trail.words ≡ [] = ap (λ (a : Areas). a.trail) c.self.view_is ∙ standing.trail_is in
    let before : Areas = the_view (record {
      env = c.cut.new.self;
      frame = c.of-frame.result;
      choice = c.self.inside.choice;
      count = c.self.inside.count;
      active = c.of-active.result;
      heap = c.self.inside.heap;
      trail = c.self.inside.trail;
      work = c.self.inside.work;
    }) in
    let same : c.undo.new.self ≡ before = nothing_undone before c.undo.new.self no_heap no_trail c.undo.ensures in
    let alternative = newest_alternative _ choice choices is in
    let return_ = newest_return _ choice choices is in
    (rw (same, c.cut.ensures, env, read.1, read.0, active_count, active_end, ← c.self.view_is, need) refl, rw (c.copy_out.ensures, count, below, (newest_of _ choice choices is).registers_there) refl, (let e : c.get-label.result ≡ place_word choice.alternative = cc in e), (let e : c.get-back.result ≡ place_word choice.back = cc in e))
