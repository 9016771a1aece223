use Rattle.std.proofs.Common.{◌≡◌, ◌+◌, ◌<◌, ◌∷◌, ◌∙◌, List, length, drop, sym, ap, arith}
use Rattle.std.proofs.lemmas.List.{drop_more}
use Rattle.bam_code.specs.declared.signature.Signature.{Signature}
use Rattle.bam_types.specs.Callees.{key_of, placed}
use Rattle.bam_types.proofs.CalleeLemmas.{next_import}
use Rattle.bam_types.proofs.callees.import_places.Goals as goal

pub loop-number-preserved : goal.loop-number-preserved
loop-number-preserved c =
    let import_ = c.index-imports-number.result in
    let imports = c.args.imports.now in
    let i = c.loop-number.number in
    let within : i < length imports = omega arith in
    let from : drop i imports ≡ import_ ∷ drop (i + 1) imports =
    drop_more imports i import_ within ∙ ap (λ (s : Signature). s ∷ drop (i + 1) imports) (sym c.index-imports-number.is) in
    λ name.
    let is = rw c.key.ensures at (c.in_ok-insert.ensures.updates.0 (key_of name)) in
    next_import imports i import_ name (placed c.loop-number.places name) _ _ from is (c.loop-number.invariant name)
