-- The program that a query on a text runs.
use Rattle.std.specs.Prelude.{◌≡◌, ℕ, Bool, ◌&&◌, nat_le, IsTrue, List, length}
use Rattle.std.specs.List.{list_all}
use Rattle.source_meaning.specs.Program.{Name, Clause, Program}
use Rattle.source_meaning.specs.declared.rule_program.RuleClause.{RuleClause}
use Rattle.source_meaning.specs.RuleProgram.{clause_of}
use Rattle.source_meaning.specs.Closed.{Closed}
use Rattle.source_meaning.specs.RuleText.{is_name, IsRuleText}

-- the most clauses that a program of names may have: each counts 8 times 8 of the limit `total`
abbrev pub MOST_CLAUSES : ℕ
MOST_CLAUSES = 262144

-- the most goals that a body of names may have: the term of its clause is one deeper, and terms are 4,096 deep at most
abbrev pub MOST_GOALS : ℕ
MOST_GOALS = 4095

abbrev pub has_few_goals : Clause → Bool
has_few_goals clause = nat_le (length clause.body) MOST_GOALS

-- as `has_few_goals`, of a clause as the code's own data holds it
abbrev pub goals_fit : RuleClause → Bool
goals_fit clause = has_few_goals (clause_of clause)

-- the program is within the limits of the language
abbrev pub fits : Program → Bool
fits program = nat_le (length program.clauses) MOST_CLAUSES && list_all has_few_goals program.clauses

-- the text is written from a program of names within the limits, in which each name that may be called has a clause
pub record IsRuleProgram (text : List ℕ) (program : Program) : Type 0 where
  pub reads : IsRuleText text program
  pub closed : Closed program
  pub within : IsTrue (fits program)

-- the query is a name, and the text is written from such a program
abbrev pub IsSupported : Name → List ℕ → Type 0
IsSupported query text = IsTrue (is_name query) × ((program : Program) × IsRuleProgram text program)

-- the program that a query on a text runs: the one that the text is written from; for another query or text some program of
-- names, which is not said here
pub data Chosen (query : Name) (text : List ℕ) (program : Program) : Type 0 where
  rules : IsTrue (is_name query) → IsRuleProgram text program → query ≡ program.entry → Chosen query text program
  other : (IsSupported query text → ⊥) → Chosen query text program
