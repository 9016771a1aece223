-- The program that the code's own data holds.
use Rattle.std.specs.Prelude.{ℕ, List, map}
use Rattle.std.specs.Borrow.{Bor}
use Rattle.source_meaning.specs.Program.{Name, Clause, Program}
use Rattle.source_meaning.specs.declared.rule_program.RuleClause.{RuleClause}
use Rattle.source_meaning.specs.declared.rule_program.RuleProgram.{RuleProgram}

-- the names behind references
abbrev pub names_behind : List (Bor (List ℕ)) → List Name
names_behind references = map (λ (reference : Bor (List ℕ)). reference.now) references

abbrev pub clause_of : RuleClause → Clause
clause_of clause = record { head = clause.head.now; body = names_behind clause.body.items }

abbrev pub clauses_of : List RuleClause → List Clause
clauses_of clauses = map clause_of clauses

abbrev pub program_of : RuleProgram → Program
program_of program = record { entry = program.entry.now; clauses = clauses_of program.clauses.items }
