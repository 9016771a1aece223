use Rattle.std.proofs.Common.{◌≡◌, ◌++◌, drop}
use Rattle.goal_code.specs.Signatures.{argument_types, argument_types_from}
use Rattle.goal_code.proofs.signature.argument_types.Given as goal

abbrev pub invariant-loop-number : goal.invariant-loop-number
invariant-loop-number l = l.types ++ argument_types_from l.results l.number (drop l.number l.calls) ≡ argument_types l.results l.calls
