use Rattle.std.specs.List.{All}
use Rattle.kernel_form.specs.Own.{HasOwnVariables}
use Rattle.kernel_form.proofs.to_kernel.Given as goal

abbrev pub invariant-loop-predicate : goal.invariant-loop-predicate
invariant-loop-predicate l = All HasOwnVariables l.predicates.items
