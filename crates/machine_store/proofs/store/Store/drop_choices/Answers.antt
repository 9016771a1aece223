use Rattle.std.proofs.Common.{◌≡◌, ◌∙◌, true, false, ap, arith}
use Rattle.machine_store.specs.Areas.{Areas}
use Rattle.machine_store.specs.Stands.{IsStore}
use Rattle.machine_store.proofs.StandsLemmas.{dropping_goes_on, dropping_ends, has_choice}
use Rattle.machine_store.proofs.store.Store.drop_choices.Goals as goal

pub loop-self-preserved : goal.loop-self-preserved
loop-self-preserved c =
    let count = ap (λ (a : Areas). a.count) c.self.view_is in
    let same = c.in_ok-drop_choice.ensures.same in
    let before = c.loop-self.invariant.1 in (
      λ there. dropping_goes_on c.args.to c.args.self.now c.loop-self.self c.drop_choice.new.self (c.loop-self.invariant.0 there) (omega arith) c.in_ok-drop_choice.ensures.drops,
      record { heap = same.heap ∙ before.heap; trail = same.trail ∙ before.trail; work = same.work ∙ before.work },
      omega (arith, c.in_ok-drop_choice.ensures.less),
      omega (arith, c.in_ok-drop_choice.ensures.less, c.loop-self.invariant.3),
    )

pub returns-in_err-drop_choice-clause-there : goal.returns-in_err-drop_choice-clause-there
returns-in_err-drop_choice-clause-there c = λ there.
    let count = ap (λ (a : Areas). a.count) c.self.view_is in
    let dropping = c.loop-self.invariant.0 there in
    let e : false ≡ true = c.in_err-drop_choice.ensures.there (has_choice c.loop-self.self dropping.there (omega arith)) in
    let bad : ⊥ = cc in
    absurd bad

pub returns-clause-drops : goal.returns-clause-drops
returns-clause-drops c = λ frames choices stands.
    let count = ap (λ (a : Areas). a.count) c.self.view_is in
    let there : IsStore c.args.self.now = record { frames = frames; choices = choices; stands = stands } in
    dropping_ends c.args.to c.args.self.now c.loop-self.self (c.loop-self.invariant.0 there) (omega arith) frames choices stands
