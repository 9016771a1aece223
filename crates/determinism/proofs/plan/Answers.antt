use Rattle.std.proofs.Common.{◌≡◌, Some, length, sym, ap, subst, ◌∙◌, ⊎_elim, arith}
use Rattle.std.proofs.lemmas.Grind.{common_steps}
use Rattle.std.specs.Prelude.{slice_get}
use Rattle.determinism.specs.Plans.{IsPlanOf, call_of, facts_at}
use Rattle.determinism.proofs.Got.{same_some, got_push, got_in, looked_up}
use Rattle.determinism.proofs.plan.Goals as goal

pub loop-place-preserved : goal.loop-place-preserved
loop-place-preserved c =
    let items = c.in_ok-push.ensures.items in
    let looked = c.get.ensures.lookup in
    let known : facts_at c.get.result ≡ slice_get c.args.facts.now c.loop-place.place =
    looked_up c.as_slice.result.now c.loop-place.place c.get.result _ looked.1 looked.3 (λ x there. there.0)
    ∙ ap (λ fs. slice_get fs c.loop-place.place) c.as_slice.ensures in
    let own = got_in c.as_slice-predicates.result.now c.loop-place.place c.index-predicates-place.result c.loop-place-test.true c.index-predicates-place.is in
    record {
      len = let old = c.loop-place.invariant.len in grind (arith, common_steps);
      plans = λ i p plan at is.
          ⊎_elim
          (λ before. c.loop-place.invariant.plans i p plan at before)
          (λ last.
          let here : c.loop-place.place ≡ i = sym c.loop-place.invariant.len ∙ sym last.0 in
          let same : c.index-predicates-place.result ≡ p =
          same_some c.index-predicates-place.result p (sym own ∙ ap (slice_get c.as_slice-predicates.result.now) here ∙ at) in
          let facts = known ∙ ap (slice_get c.args.facts.now) here in
          subst (IsPlanOf p (call_of (slice_get c.args.facts.now i))) last.1
          (subst (λ q. IsPlanOf q (call_of (slice_get c.args.facts.now i)) c.in_ok-plan_by.field-0) same
          (subst (λ o. IsPlanOf c.index-predicates-place.result (call_of o) c.in_ok-plan_by.field-0) facts c.in_ok-plan_by.ensures)))
          (got_push c.loop-place.plans.items c.in_ok-plan_by.field-0 plan i (ap (λ l. slice_get l i) (sym items) ∙ is));
    }

pub returns-clause-plans : goal.returns-clause-plans
returns-clause-plans c = λ i p plan at is.
    c.loop-place.invariant.plans i p plan (ap (λ l. slice_get l i) c.as_slice-predicates.ensures ∙ at)
    (ap (λ l. slice_get l i) (sym c.from_vec.ensures) ∙ is)
