use Rattle.std.proofs.Common.{rules, Err, ap, arith}
use Rattle.source_program.specs.TextRefusals.{IsFaultBy, IsTextRefusal}
use Rattle.source_program.proofs.TextLemmas.{so_far_none, so_far_next, form_refused, second_refused, modes_with}
use Rattle.source_program.proofs.gathering.Forms.of.Goals as goal

pub loop-index-init : goal.loop-index-init
loop-index-init c =
    rw (c.new-2.ensures, c.new.ensures.items, c.new-declared.ensures)
    (record { so_far = so_far_none; modes = λ k d lt. absurd (omega arith) })

pub returns-in_err-add-in-Ok-clause-refused : goal.returns-in_err-add-in-Ok-clause-refused
returns-in_err-add-in-Ok-clause-refused c =
    let refused : IsFaultBy (IsTextRefusal c.args.clauses.now) c.in_err-add-in-Ok.field-0.0 =
    rw (← c.as_slice-read-items.ensures)
    (second_refused _ _ _ c.read-item.result _ _ _ _ c.in_err-add-in-Ok.ensures.refused c.loop-index.invariant.so_far c.in-Ok.ensures.ok c.in-Ok.ensures.keys c.loop-index-test.true c.read-item.is)
    in search (rules, refused)

pub returns-in-Err-clause-refused : goal.returns-in-Err-clause-refused
returns-in-Err-clause-refused c =
    rw (← c.as_slice-read-items.ensures)
    (form_refused c.in-Err.fault _ _ _ c.read-item.result c.of_form.ensures.form c.of_form.ensures.memory (λ kind e. c.in-Err.ensures.refused kind (ap Err e)) c.loop-index-test.true c.read-item.is c.loop-index.invariant.so_far.forms)

pub loop-index-preserved : goal.loop-index-preserved
loop-index-preserved c =
    rw (c.in_ok-add-in-Ok.ensures.entries, c.in_ok-add-in-Ok.ensures.clauses, c.in_ok-add-in-Ok.ensures.keys)
    (record {
      so_far = so_far_next _ _ c.read-item.result _ _ _ _ c.loop-index-test.true c.read-item.is c.loop-index.invariant.so_far c.in-Ok.ensures.ok c.in-Ok.ensures.keys c.in-Ok.ensures.form c.in_ok-add-in-Ok.ensures.is_new;
      modes = modes_with _ _ _ c.in-Ok.ensures.form c.loop-index.invariant.modes;
    })
