use Rattle.std.proofs.Common.{ℕ, ◌+◌, ◌<◌, ◌≤◌}
use Rattle.prolog_tokens.specs.Layout.{ClosesAt}
use Rattle.prolog_tokens.proofs.layout.block_end.Given as goal

abbrev pub invariant-loop-i : goal.invariant-loop-i
invariant-loop-i l = (k : ℕ) → l.at ≤ k → k + 1 < l.i → ClosesAt l.text k → ⊥
