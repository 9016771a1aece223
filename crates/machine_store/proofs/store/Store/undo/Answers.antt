use Rattle.std.proofs.Common.{◌≡◌, ◌<◌, ◌+◌, List, Some, length, drop, sym, subst, ap, ◌∙◌, arith}
use Rattle.std.specs.List.{slice_get}
use Rattle.std.specs.Prelude.{slice_set}
use Rattle.tag_word.specs.Tagged.{Tagged}
use Rattle.machine_store.specs.Areas.{Areas, ref_word, undone}
use Rattle.machine_store.proofs.UndoLemmas.{undone_step}
use Rattle.machine_store.proofs.store.Store.undo.Goals as goal

pub loop-at-preserved : goal.loop-at-preserved
loop-at-preserved c =
    let kept = c.loop-at.invariant.0 in
    let index = c.value_at-index.result in
    let set = c.unbind.ensures in
    let heap : c.unbind.new.self.heap ≡ slice_set c.loop-at.self.heap index (ref_word index) = ap (λ (a : Areas). a.heap) set in
    let trail : c.self-in-loop-at.inside.trail.words ≡ c.args.self.now.trail = ap (λ (a : Areas). a.trail) (c.self-in-loop-at.view_is ∙ kept) in
    let lt : c.loop-at.at < length c.args.self.now.trail = (let long = ap (λ (t : List Tagged). length t) trail in omega (arith, c.loop-at-test.true, c.len.ensures.len, long)) in
    let step = undone_step c.args.self.now.trail c.loop-at.self.heap c.loop-at.at index lt (λ word there. c.value_at-index.ensures word (subst (λ (t : List Tagged). slice_get t c.loop-at.at ≡ Some word) (sym trail) there)) in
    (set ∙ ap (λ (a : Areas). record a { heap = slice_set c.loop-at.self.heap index (ref_word index) }) kept ∙ ap (λ (h : List Tagged). record c.args.self.now { heap = h }) (sym heap), ap (undone (drop (c.loop-at.at + 1) c.args.self.now.trail)) heap ∙ step ∙ c.loop-at.invariant.1)
