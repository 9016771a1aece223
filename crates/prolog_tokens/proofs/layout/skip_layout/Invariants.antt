use Rattle.std.proofs.Common.{◌-◌, ◌≤◌, length}
use Rattle.prolog_tokens.specs.Layout.{Gap}
use Rattle.prolog_tokens.proofs.layout.skip_layout.Given as goal

abbrev pub invariant-loop-at : goal.invariant-loop-at
invariant-loop-at l = record { gap : Gap l.text l.from l.at; high : l.at ≤ length l.text }

abbrev pub decreases-loop-at : goal.decreases-loop-at
decreases-loop-at l = length l.text - l.at
