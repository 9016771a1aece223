use Rattle.std.proofs.Common.{◌≡◌, drop}
use Rattle.determinism.specs.Selection.{first_key}
use Rattle.determinism.proofs.choose.first_key.Given as goal

abbrev pub invariant-loop-key : goal.invariant-loop-key
invariant-loop-key l = first_key (drop l.key-index l.keys) ≡ first_key l.keys
