use Rattle.std.proofs.Common.{◌≡◌, ◌<◌, ◌≤◌, ◌+◌, ◌-◌, ◌^◌, length, sym, subst, refl, ◌∷◌, arith, ◌∙◌}
use Rattle.bam_meaning.specs.Frame.{newest_end}
use Rattle.bam_meaning.specs.Choice.{protected}
use Rattle.machine_store.specs.Areas.{Areas, place_word}
use Rattle.machine_store.specs.Stands.{StoreStands}
use Rattle.machine_store.specs.contracts.store.Store.{the_view}
use Rattle.machine_store.proofs.DerefsLemmas.{same_some}
use Rattle.machine_store.proofs.StandsLemmas.{frame_return, frame_below, link_read, slots_fit}
use Rattle.machine_store.proofs.store.Store.pop_frame.Goals as goal

pub returns-then-not-is_frame_within-clause-there : goal.returns-then-not-is_frame_within-clause-there
returns-then-not-is_frame_within-clause-there c = λ had.
    let stands : StoreStands (the_view c.self.inside) (had.frame ∷ had.frames) had.choices = subst (λ (a : Areas). StoreStands a (had.frame ∷ had.frames) had.choices) (sym c.self.view_is) had.stands in
    let newest : c.self.inside.frame.end ≡ had.frame.start + (length had.frame.slots + 2) = stands.newest_is in
    let above : newest_end had.frames ≤ had.frame.start = stands.frames_stand.0.above in
    let read = link_read had.frames c.get.result c.of-below.result.count c.of-below.result.end (omega arith) (same_some _ _ (sym c.get.ensures ∙ frame_below (the_view c.self.inside) had.frame had.frames had.choices stands)) c.of-below.ensures.count c.of-below.ensures.end in
    let fit = slots_fit had.frames in
    let yes = c.is_frame_within.ensures.1 (omega (arith, read.1), omega (arith, read.0, read.1, fit)) in
    let no = c.if-not-is_frame_within.true in
    let bad : ⊥ = cc in
    absurd bad

pub returns-clause-pops : goal.returns-clause-pops
returns-clause-pops c = λ frame frames choices standing.
    let stands : StoreStands (the_view c.self.inside) (frame ∷ frames) choices = subst (λ (a : Areas). StoreStands a (frame ∷ frames) choices) (sym c.self.view_is) standing in
    let newest : c.self.inside.frame.end ≡ frame.start + (length frame.slots + 2) = stands.newest_is in
    let above : newest_end frames ≤ frame.start = stands.frames_stand.0.above in
    let read = link_read frames c.get.result c.of-below.result.count c.of-below.result.end (omega arith) (same_some _ _ (sym c.get.ensures ∙ frame_below (the_view c.self.inside) frame frames choices stands)) c.of-below.ensures.count c.of-below.ensures.end in
    let kept = frame_return (the_view c.self.inside) frame frames choices stands in
    let held : c.protected.result ≡ protected choices = c.protected.ensures choices standing.choice_is standing.count_is in
    ((let back : c.get-back.result ≡ place_word frame.back = cc in back), rw (c.cut.ensures, c.max-need.ensures, read.1, read.0, held, ← c.self.view_is) refl)
