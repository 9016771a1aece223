use Rattle.std.proofs.Common.{◌≡◌, ◌<◌, ℕ, false}
use Rattle.determinism.specs.Selection.{has_key}
use Rattle.determinism.proofs.choose.keyed_argument.Given as goal

abbrev pub invariant-loop-argument : goal.invariant-loop-argument
invariant-loop-argument l = (j : ℕ) → j < l.argument → has_key l.predicate j ≡ false
