-- What the passes over a program make: names as numbers of a table, clauses by name, and the numbers that are reached.
use Rattle.std.specs.Prelude.{ℕ, ◌==◌, not, nat_lt, Bool, true, cond, List, [], ◌∷◌, ◌++◌, fold, length, slice_index_or, slice_set}
use Rattle.std.specs.List.{list_all}
use Rattle.aq_term.specs.Atoms.{place_of, with_text}
use Rattle.aq_term.specs.declared.proc_name.ProcName.{ProcName}
use Rattle.source_meaning.specs.Program.{Name, Clause, Program}
use Rattle.rule_code.specs.declared.rule.Rule.{Rule}
use Rattle.rule_code.specs.CodeAt.{Body}
use Rattle.rule_code.specs.Compiled.{Among, named}

-- a table of texts, and names by their numbers
pub record Noted : Type 0 where
  pub texts : List Name
  pub names : List ProcName

-- one more name, which the table then has
abbrev pub note : Noted → Name → Noted
note noted name =
    record { texts = with_text noted.texts name; names = noted.names ++ named (place_of noted.texts name) ∷ [] }

-- a table of texts, and clauses by the numbers of their names
pub record NotedRules : Type 0 where
  pub texts : List Name
  pub rules : List Rule

abbrev pub with_rule : List Rule → ProcName → Noted → NotedRules
with_rule rules head noted =
    record { texts = noted.texts; rules = rules ++ record { head = head; goals = noted.names } ∷ [] }

-- one more clause, whose names the table then has
abbrev pub note_rule : NotedRules → Clause → NotedRules
note_rule noted clause =
    with_rule noted.rules (named (place_of noted.texts clause.head)) (fold note (record { texts = with_text noted.texts clause.head; names = [] }) clause.body)

-- a table with all names of a program: the entry's, and then those of the clauses in text order
abbrev pub table_with : List Name → Program → List Name
table_with texts program =
    (fold note_rule (record { texts = with_text texts program.entry; rules = [] }) program.clauses).texts

-- the names of heads in the order in which they first appear, and for each number the bodies of its clauses
pub record Groups : Type 0 where
  pub order : List ProcName
  pub rows : List (List Body)

-- the bodies of a number
abbrev pub row_at : List (List Body) → ℕ → List Body
row_at rows number = slice_index_or rows number []

-- a clause more, where the number of its head is one of those
abbrev pub placed : Groups → Rule → Groups
placed groups rule =
    cond (nat_lt rule.head.name.number (length groups.rows)) (record { order = cond (length (row_at groups.rows rule.head.name.number) == 0) (groups.order ++ rule.head ∷ []) groups.order; rows = slice_set groups.rows rule.head.name.number (row_at groups.rows rule.head.name.number ++ rule.goals ∷ []) }) groups

-- the name has a clause
abbrev pub is_defined : List (List Body) → ProcName → Bool
is_defined rows name = not (length (row_at rows name.name.number) == 0)

-- each goal of each body is so
abbrev pub all_rows : (ProcName → Bool) → List (List Body) → Bool
all_rows test rows = list_all (list_all (list_all test)) rows

-- which numbers are marked, and those whose goals are still to be marked
pub record Marks : Type 0 where
  pub reached : List Bool
  pub todo : List ℕ

-- a name is marked; past the numbers there is nothing to mark
abbrev pub mark : Marks → ProcName → Marks
mark marks name =
    cond (slice_index_or marks.reached name.name.number true) marks (record { reached = slice_set marks.reached name.name.number true; todo = marks.todo ++ name.name.number ∷ [] })

abbrev pub mark_body : Marks → Body → Marks
mark_body marks body = fold mark marks body

-- the numbers that a number reaches: itself, and those of the goals of the bodies of each
pub data ReachedFrom (rows : List (List Body)) (start : ℕ) : ℕ → Type 0 where
  begun : ReachedFrom rows start start
  further : (number : ℕ) (body : Body) (goal : ProcName) → ReachedFrom rows start number → Among (row_at rows number) body → Among body goal → ReachedFrom rows start goal.name.number
