use Rattle.std.proofs.Common.{◌≡◌, map, take}
use Rattle.std.specs.Prelude.{None}
use Rattle.determinism.proofs.clause_key.no_keys.Given as goal

abbrev pub invariant-loop-clause : goal.invariant-loop-clause
invariant-loop-clause l = l.keys.items ≡ map (λ _. None) (take l._clause-index l.clauses)
