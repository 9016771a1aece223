use Rattle.std.proofs.Common.{◌≡◌, ◌≢◌, ◌∷◌, ◌-◌, max, ℕ, length, ap, ◌∙◌, refl, arith}
use Rattle.bam_meaning.specs.Frame.{newest_end}
use Rattle.bam_meaning.specs.Choice.{choice_need, protected, env_need}
use Rattle.machine_store.specs.Areas.{Areas, index_word}
use Rattle.machine_store.specs.Held.{Held}
use Rattle.machine_store.specs.Stands.{choice_area}
use Rattle.machine_store.proofs.StandsLemmas.{newest_below, newest_long, older_left, choices_within}
use Rattle.machine_store.proofs.store.Store.drop_choice.Goals as goal
use Rattle.machine_store.proofs.store.Store.drop_choice.Goals.{then-below-end-via-then-below-end, then-below-end-via-else-below-end+then-below-fewer, then-below-end-via-else-below-end+else-below-fewer+then-active-fewer}

pub returns-then-below-end-clause-there : goal.returns-then-below-end-clause-there
returns-then-below-end-clause-there c = λ had.
    let is : c.self.inside.choice.words ≡ choice_area (had.choice ∷ had.choices) = ap (λ (a : Areas). a.choice) c.self.view_is ∙ had.stands.choice_is in
    let below : c.value_at-below.result ≡ choice_need had.choices = c.value_at-below.ensures (index_word (choice_need had.choices)) (rw c.len-end.ensures.len (newest_below _ had.choice had.choices is)) in
    let long = newest_long _ had.choice had.choices is in
    let many = choices_within had.choices in
    let count : c.self.inside.count ≡ length (had.choice ∷ had.choices) = ap (λ (a : Areas). a.count) c.self.view_is ∙ had.stands.count_is in
    let zero_end : c.args.self.now.active ≡ 0 = had.stands.active_is in
    let zero_count : c.args.self.now.catchers ≡ 0 = had.stands.catchers_is in
    let active : c.active_without-active.result.count ≡ c.args.self.now.catchers = (c.active_without-active.ensures (λ e. omega (arith, c.len-end.ensures.len, zero_end, long, e))).0 in
    let bad : ⊥ = elim c.then-below-end.branch [
      | then-below-end-via-then-below-end w ↦ omega (arith, w.if-below-end.true, below, long, c.len-end.ensures.len)
      | then-below-end-via-else-below-end+then-below-fewer w ↦ omega (arith, w.if-below-fewer.true, below, many, count)
      | then-below-end-via-else-below-end+else-below-fewer+then-active-fewer w ↦ omega (arith, w.if-active-fewer.true, active, zero_count)
    ] in
    absurd bad

pub returns-clause-drops : goal.returns-clause-drops
returns-clause-drops c = λ choice frames choices standing.
    let is : c.self.inside.choice.words ≡ choice_area (choice ∷ choices) = ap (λ (a : Areas). a.choice) c.self.view_is ∙ standing.choice_is in
    let below : c.value_at-below.result ≡ choice_need choices = c.value_at-below.ensures (index_word (choice_need choices)) (rw c.len-end.ensures.len (newest_below _ choice choices is)) in
    let long = newest_long _ choice choices is in
    let left : c.cut.new.self.words ≡ choice_area choices = older_left _ _ _ choice choices is below (ap (λ (h : Held). h.words) c.cut.ensures) in
    let count : c.self.inside.count ≡ length (choice ∷ choices) = ap (λ (a : Areas). a.count) c.self.view_is ∙ standing.count_is in
    let fewer : c.self.inside.count - 1 ≡ length choices = omega arith in
    let zero_end : c.args.self.now.active ≡ 0 = standing.active_is in
    let active = c.active_without-active.ensures (λ e. omega (arith, c.len-end.ensures.len, zero_end, long, e)) in
    let held : c.protected.result ≡ protected choices = c.protected.ensures choices left fewer in
    let newest : c.self.inside.frame.end ≡ newest_end frames = ap (λ (a : Areas). a.frame) c.self.view_is ∙ standing.newest_is in
    let need : c.max-need.result ≡ env_need frames choices = c.max-need.ensures ∙ ap (λ (n : ℕ). max n c.protected.result) newest ∙ ap (max (newest_end frames)) held in
    rw (c.cut-2.ensures, c.cut.ensures, need, below, fewer, active.0, active.1, ← c.self.view_is) refl
