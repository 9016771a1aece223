use Rattle.std.proofs.Common.{◌≡◌, map, take}
use Rattle.determinism.specs.Keys.{clause_key}
use Rattle.determinism.proofs.clause_key.clause_keys.Given as goal

abbrev pub invariant-loop-clause : goal.invariant-loop-clause
invariant-loop-clause l = l.keys.items ≡ map (clause_key l.argument) (take l.clause-index l.clauses)
