use Rattle.std.proofs.Common.{◌≡◌, ◌<◌, ℕ, false}
use Rattle.determinism.specs.Selection.{tells_apart}
use Rattle.determinism.proofs.choose.telling_argument.Given as goal

abbrev pub invariant-loop-argument : goal.invariant-loop-argument
invariant-loop-argument l = (j : ℕ) → j < l.argument → tells_apart l.predicate l.call j ≡ false
