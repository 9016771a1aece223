use Rattle.std.proofs.Common.{◌≡◌, ◌++◌, drop}
use Rattle.goal_code.specs.Signatures.{result_types}
use Rattle.goal_code.proofs.signature.result_types.Given as goal

abbrev pub invariant-loop-number : goal.invariant-loop-number
invariant-loop-number l = l.types ++ result_types (drop l.number l.args) (drop l.number l.successes) ≡ result_types l.args l.successes
