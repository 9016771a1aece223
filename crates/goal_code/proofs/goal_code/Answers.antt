use Rattle.std.proofs.Common.{◌≡◌, ◌++◌, ◌+◌, suc, Some, drop, length, map, sym, ap, ◌∙◌, append_assoc, arith}
use Rattle.std.specs.Prelude.{slice_get}
use Rattle.goal_code.specs.Planned.{signature_planned}
use Rattle.goal_code.specs.Signatures.{led_to, signature_at, signature_of, signatures_due}
use Rattle.goal_code.proofs.Due.{due_step, got_in, looked_up, more_procs}
use Rattle.goal_code.proofs.goal_code.Goals as goal

pub loop-number-preserved : goal.loop-number-preserved
loop-number-preserved c =
    let i = c.loop-number.number in
    let ps = c.args.kernel.now.predicates in
    let fs = c.args.facts.now in
    let os = c.args.outs.now in
    let p = c.predicate-item.result in
    let rest = signatures_due (drop (i + 1) ps) (drop (i + 1) fs) (drop (i + 1) os) in
    let next : suc i ≡ i + 1 = omega arith in
    let before = map signature_of c.loop-number.procs in
    let at : slice_get ps i ≡ Some p =
    ap (λ l. slice_get l i) (sym c.as_slice-predicate-items.ensures) ∙ got_in c.as_slice-predicate-items.result.now i p c.loop-number-test.true c.predicate-item.is in
    let own_look = c.get-own.ensures.lookup in
    let own : led_to c.get-own.result ≡ slice_get fs i =
    looked_up c.as_slice.result.now i c.get-own.result _ own_look.1 own_look.3 (λ x there. there.0) ∙ ap (λ l. slice_get l i) c.as_slice.ensures in
    let outs_look = c.get-results.ensures.lookup in
    let outs : led_to c.get-results.result ≡ slice_get os i =
    looked_up c.as_slice-in-loop-number.result.now i c.get-results.result _ outs_look.1 outs_look.3 (λ x there. there.0) ∙ ap (λ l. slice_get l i) c.as_slice-in-loop-number.ensures in
    let planned : signature_planned c.planned-planned.result ≡ signature_at p (slice_get fs i) (slice_get os i) =
    c.planned-planned.ensures.signature ∙ ap (λ f. signature_at p f (led_to c.get-results.result)) own ∙ ap (λ o. signature_at p (slice_get fs i) o) outs in
    let plan_at : slice_get c.args.plans.now i ≡ Some c.index-as_slice-number.result =
    ap (λ l. slice_get l i) (sym c.as_slice-in-loop-number-2.ensures) ∙ got_in c.as_slice-in-loop-number-2.result.now i c.index-as_slice-number.result (omega (arith, ap length c.as_slice-in-loop-number-2.ensures, ap length c.as_slice-predicate-items.ensures)) c.index-as_slice-number.is in
    record {
      signatures =
          ap (λ l. l ++ rest) c.in_ok-pool.ensures.signature ∙ append_assoc before (signature_planned c.planned-planned.result) rest ∙ ap (λ l. before ++ (l ++ rest)) planned
          ∙ ap (λ l. before ++ l) (sym (due_step ps fs os i p at ∙ ap (λ n. signature_at p (slice_get fs i) (slice_get os i) ++ signatures_due (drop n ps) (drop n fs) (drop n os)) next))
          ∙ c.loop-number.invariant.signatures;
      procedures =
          more_procs ps fs c.args.plans.now i c.planned-planned.result p c.index-as_slice-number.result (led_to c.get-own.result) c.loop-number.procs _
          c.loop-number.invariant.procedures at plan_at own c.planned-planned.ensures.planned c.in_ok-pool.ensures.procedure;
    }
