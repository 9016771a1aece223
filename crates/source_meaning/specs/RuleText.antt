-- The texts that programs of rules are written as: an entry declaration, and then facts and rules whose goals are names,
-- with comments between.
use Rattle.std.specs.Prelude.{◌≡◌, ◌≢◌, ◌⊎◌, ℕ, Bool, true, false, ◌==◌, ◌&&◌, ◌||◌, not, nat_le, nat_lt, if◌then◌else◌, IsTrue, List, [], ◌∷◌, ◌++◌, codes, map}
use Rattle.std.specs.List.{list_all, list_any}
use Rattle.std.specs.Str.{bytes_eq}
use Rattle.source_meaning.specs.Program.{Name, Clause, Program}

abbrev pub is_lower : ℕ → Bool
is_lower byte = nat_le 97 byte && nat_le byte 122

-- a letter, a digit or an underscore
abbrev pub is_word_byte : ℕ → Bool
is_word_byte byte = is_lower byte || (nat_le 65 byte && nat_le byte 90) || (nat_le 48 byte && nat_le byte 57) || byte == 95

-- a space or a new line
abbrev pub is_blank : ℕ → Bool
is_blank byte = byte == 32 || byte == 10

-- the byte that begins a comment, which goes on to the end of its line
abbrev pub COMMENT : ℕ
COMMENT = 37

abbrev pub LINE_END : ℕ
LINE_END = 10

-- layout as it goes on outside and within a comment: spaces, new lines and whole comments of ASCII text
abbrev pub gap : Bool → List ℕ → Bool
gap false [] = true
gap false (byte ∷ bytes) = if is_blank byte then gap false bytes else (if byte == COMMENT then gap true bytes else false)
gap true [] = false
gap true (byte ∷ bytes) = if byte == LINE_END then gap false bytes else (if nat_lt byte 128 then gap true bytes else false)

abbrev pub is_gap : List ℕ → Bool
is_gap bytes = gap false bytes

-- names with a meaning of their own
abbrev pub own_names : List Name
own_names =
    codes "true" ∷ codes "fail" ∷ codes "nl" ∷ codes "repeat" ∷ codes "halt" ∷ codes "is" ∷ codes "mod" ∷ codes "rem" ∷ []

-- a lower-case letter, then letters, digits and underscores, and no name with a meaning of its own
abbrev pub is_name : Name → Bool
is_name [] = false
is_name (byte ∷ bytes) = is_lower byte && list_all is_word_byte bytes && not (list_any (bytes_eq (byte ∷ bytes)) own_names)

-- the head and the goals are names
abbrev pub is_rule : Clause → Bool
is_rule clause = is_name clause.head && list_all is_name clause.body

-- a comma and a space before each goal
abbrev pub goals_text : List Name → List ℕ
goals_text [] = []
goals_text (goal ∷ goals) = codes ", " ++ (goal ++ goals_text goals)

-- nothing for a fact; for a rule the neck, the first goal and the others
abbrev pub body_text : List Name → List ℕ
body_text [] = []
body_text (goal ∷ goals) = codes " :- " ++ (goal ++ goals_text goals)

-- a clause as it is written, with the layout behind its full stop
pub record WrittenClause : Type 0 where
  pub clause : Clause
  pub layout : List ℕ

-- each clause from its head to its full stop, and the layout behind it
abbrev pub clauses_text : List WrittenClause → List ℕ
clauses_text [] = []
clauses_text (written ∷ more) =
    written.clause.head ++ (body_text written.clause.body ++ (codes "." ++ (written.layout ++ clauses_text more)))

-- some layout stands behind a full stop, unless no clause follows
abbrev pub IsApart : List ℕ → List WrittenClause → Type 0
IsApart layout more = (more ≡ []) ⊎ (layout ≢ [])

-- each clause is a fact or a rule, and layout stands behind it
abbrev pub AreWrittenClauses : List WrittenClause → Type 0
AreWrittenClauses [] = Unit {0}
AreWrittenClauses (written ∷ more) =
    IsTrue (is_rule written.clause) × IsTrue (is_gap written.layout) × IsApart written.layout more × AreWrittenClauses more

abbrev pub clauses_written : List WrittenClause → List Clause
clauses_written written = map (λ (one : WrittenClause). one.clause) written

-- the text declares the program's entry and then writes its clauses; names that are called may be without clauses
pub record IsRuleText (text : List ℕ) (program : Program) : Type 0 where
  pub lead : List ℕ
  pub layout : List ℕ
  pub clauses : List WrittenClause
  pub text_is : text ≡ lead ++ (codes ":- entry(" ++ (program.entry ++ (codes ")." ++ (layout ++ clauses_text clauses))))
  pub lead_is : IsTrue (is_gap lead)
  pub entry_is_name : IsTrue (is_name program.entry)
  pub layout_is : IsTrue (is_gap layout)
  pub apart : IsApart layout clauses
  pub clauses_are_written : AreWrittenClauses clauses
  pub clauses_are : program.clauses ≡ clauses_written clauses
