use Rattle.std.proofs.lemmas.List.Elements.{All-append}
use Rattle.kernel_form.specs.Own.{HasOwnVariables}
use Rattle.kernel_form.proofs.to_kernel.Goals as goal

pub loop-predicate-preserved : goal.loop-predicate-preserved
loop-predicate-preserved c =
    rw c.in_ok-append.ensures.items (All-append HasOwnVariables _ _ c.loop-predicate.invariant c.in_ok-made.ensures)
