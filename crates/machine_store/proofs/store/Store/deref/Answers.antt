use Rattle.std.proofs.Common.{◌≡◌, ◌≢◌, List, Some, sym, subst, ap, ◌∙◌, arith}
use Rattle.std.specs.List.{slice_get}
use Rattle.tag_word.specs.declared.tag.Tag.TheVariants as tag
use Rattle.tag_word.specs.Tagged.{Tagged}
use Rattle.machine_store.specs.Areas.{Areas, ref_word}
use Rattle.machine_store.specs.Derefs.{DerefsBelow}
use Rattle.machine_store.proofs.DerefsLemmas.{same_some, ref_is, plain_only, unbound_only, follow_only}
use Rattle.machine_store.proofs.store.Store.deref.Goals as goal

pub returns-in_default : goal.returns-in_default
returns-in_default c = λ value.
    let same = c.loop-index.invariant.1 value in
    let no_ref : c.loop-index.word.tag ≢ tag.Ref = λ e. c.in_default.not-Ref (c.tag.ensures ∙ e) in
    let no_hole : c.loop-index.word.tag ≢ tag.Hol = λ e. c.in_default.not-Hol (c.tag.ensures ∙ e) in
    (λ e. same.0 (DerefsBelow.plain _ _ no_ref no_hole (same_some _ _ e)), λ d. ap Some (plain_only _ _ _ _ (same.1 d) no_ref))

pub returns-then-is : goal.returns-then-is
returns-then-is c = λ value.
    let same = c.loop-index.invariant.1 value in
    let heap : c.self.inside.heap.words ≡ c.args.self.now.heap = ap (λ (a : Areas). a.heap) c.self.view_is in
    let here : c.loop-index.word ≡ ref_word c.index-index.result = ref_is _ _ (sym c.tag.ensures ∙ c.in-Ref.is) c.index-index.ensures in
    let word : c.get-next.result ≡ c.loop-index.word = c.is.ensures.0 c.if-is.true in
    let own : slice_get c.args.self.now.heap c.index-index.result ≡ Some c.loop-index.word = subst (λ (h : List Tagged). slice_get h c.index-index.result ≡ Some c.loop-index.word) heap (c.get-next.ensures ∙ ap Some word) in
    (λ e. same.0 (DerefsBelow.unbound _ _ _ here (omega arith) own (same_some _ _ e)), λ d. ap Some (unbound_only _ _ _ _ _ (same.1 d) here own))

pub loop-index-preserved : goal.loop-index-preserved
loop-index-preserved c =
    let heap : c.self.inside.heap.words ≡ c.args.self.now.heap = ap (λ (a : Areas). a.heap) c.self.view_is in
    let here : c.loop-index.word ≡ ref_word c.index-index.result = ref_is _ _ (sym c.tag.ensures ∙ c.in-Ref.is) c.index-index.ensures in
    let other : c.get-next.result ≢ c.loop-index.word = λ e. (let yes = c.is.ensures.1 e in let no = c.if-is.false in let bad : ⊥ = cc in bad) in
    let own : slice_get c.args.self.now.heap c.index-index.result ≡ Some c.get-next.result = subst (λ (h : List Tagged). slice_get h c.index-index.result ≡ Some c.get-next.result) heap c.get-next.ensures in (
      omega (arith, c.loop-index.invariant.0),
      λ value.
          let same = c.loop-index.invariant.1 value in
          (λ d. same.0 (DerefsBelow.follow _ _ _ _ here (omega arith) own other d), λ d. follow_only _ _ _ _ _ _ (same.1 d) here own other),
    )
