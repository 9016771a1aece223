-- Tests of a program as the code's own data holds it.
use Rattle.std.proofs.Common.{◌≡◌, Bool, List, [], ◌∷◌, length, map, refl, ap}
use Rattle.std.specs.Prelude.{◌&&◌, nat_le}
use Rattle.std.specs.List.{list_all}
use Rattle.std.proofs.lemmas.List.{length-map}
use Rattle.std.specs.Borrow.{Bor}
use Rattle.source_meaning.specs.Program.{Name}
use Rattle.source_meaning.specs.declared.rule_program.RuleClause.{RuleClause}
use Rattle.source_meaning.specs.RuleProgram.{names_behind, clause_of, clauses_of}
use Rattle.aquarius_top.specs.Chosen.{has_few_goals, goals_fit}

pub names_counted : (names : List (Bor Name)) → length (names_behind names) ≡ length names
names_counted names = length-map names (λ (reference : Bor Name). reference.now)

pub clauses_counted : (clauses : List RuleClause) → length (clauses_of clauses) ≡ length clauses
clauses_counted clauses = length-map clauses clause_of

pub clauses_tested : (clauses : List RuleClause) → list_all goals_fit clauses ≡ list_all has_few_goals (clauses_of clauses)
clauses_tested [] = refl
clauses_tested (clause ∷ clauses) = ap (λ (b : Bool). goals_fit clause && b) (clauses_tested clauses)
