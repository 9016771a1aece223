-- What an analysis has left to do at most.
use Rattle.std.specs.Prelude.{ℕ, ◌+◌, ◌*◌, List}
use Rattle.flow_equations.specs.PredicateRises.{rises_of_all}
use Rattle.flow_equations.specs.declared.predicate_facts.PredicateFacts.{PredicateFacts}

-- each fact that can still rise puts at most one rise on the list
abbrev pub work_of : List PredicateFacts → ℕ → ℕ
work_of facts waiting = 2 * rises_of_all facts + waiting
