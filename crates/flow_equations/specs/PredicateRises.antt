-- How often the facts of predicates can still rise.
use Rattle.std.specs.Prelude.{ℕ, ◌+◌, not, List, sum_by}
use Rattle.flow_equations.specs.declared.predicate_facts.PredicateFacts.{PredicateFacts}
use Rattle.flow_equations.specs.Rises.{all_rises_of, one_where}

abbrev pub rises_of_predicate : PredicateFacts → ℕ
rises_of_predicate p = one_where (not p.reached) + all_rises_of p.call + all_rises_of p.success

abbrev pub rises_of_all : List PredicateFacts → ℕ
rises_of_all ps = sum_by rises_of_predicate ps
