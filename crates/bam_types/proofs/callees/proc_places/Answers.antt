use Rattle.std.proofs.Common.{◌≡◌, ◌+◌, ◌<◌, ◌∷◌, ◌∙◌, List, length, drop, sym, ap, arith}
use Rattle.std.proofs.lemmas.List.{drop_more}
use Rattle.bam_code.specs.declared.procedure.Proc.{Proc}
use Rattle.bam_types.specs.Callees.{key_of, placed}
use Rattle.bam_types.proofs.CalleeLemmas.{next_proc}
use Rattle.bam_types.proofs.callees.proc_places.Goals as goal

pub loop-number-preserved : goal.loop-number-preserved
loop-number-preserved c =
    let proc = c.index-procs-number.result in
    let procs = c.args.procs.now in
    let i = c.loop-number.number in
    let within : i < length procs = omega arith in
    let from : drop i procs ≡ proc ∷ drop (i + 1) procs =
    drop_more procs i proc within ∙ ap (λ (p : Proc). p ∷ drop (i + 1) procs) (sym c.index-procs-number.is) in
    λ name.
    let is = rw c.key.ensures at (c.in_ok-insert.ensures.updates.0 (key_of name)) in
    next_proc procs i proc name (placed c.loop-number.places name) _ _ from is (c.loop-number.invariant name)
