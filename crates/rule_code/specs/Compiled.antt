-- The code of a program whose goals are names.
use Rattle.std.specs.Prelude.{◌≡◌, ◌⊎◌, ◌↔◌, ℕ, Bool, IsTrue, List, [], ◌∷◌, filter, fold, map, slice_get, unwrap_or}
use Rattle.std.specs.List.{list_any}
use Rattle.std.specs.Str.{bytes_eq}
use Rattle.aq_term.specs.Atoms.{place_of, with_text}
use Rattle.aq_term.specs.declared.entry.Entry.{Entry}
use Rattle.aq_term.specs.declared.proc_name.ProcName.{ProcName}
use Rattle.source_meaning.specs.Program.{Name, Clause, Program}
use Rattle.source_meaning.specs.SourceStep.{bodies_of}
use Rattle.source_meaning.specs.Closed.{AllNames, AllCalls, Closed}
use Rattle.bam_code.specs.declared.code.Code.{Code}
use Rattle.rule_code.specs.CodeAt.{Body}
use Rattle.rule_code.specs.CodeOf.{Predicate, proc_of}

-- the list has the item
abbrev pub Among : {X : Type 0} → List X → X → Type 0
Among [] sought = ⊥
Among (item ∷ items) sought = (item ≡ sought) ⊎ Among items sought

-- the names that the entry reaches: its own, and each that a clause of a reached name calls
pub data Reached (program : Program) : Name → Type 0 where
  entry : Reached program program.entry
  goal : (caller called : Name) → (body : List Name) → Reached program caller → Among (bodies_of caller program.clauses) body → Among body called → Reached program called

-- the names of the heads, each once, in the order in which they first appear
abbrev pub first_heads : List Clause → List Name
first_heads clauses = fold with_text [] (map (λ (clause : Clause). clause.head) clauses)

-- the text of a name by a table of texts
abbrev pub text_of : List Name → ProcName → Name
text_of texts name = unwrap_or (slice_get texts name.name.number) []

-- the name of a predicate without arguments, by its number
abbrev pub named : ℕ → ProcName
named number = record { name = record { number = number }; arity = 0; part = 0; width = 0 }

-- the name of a predicate without arguments, by a table of texts
abbrev pub name_in : List Name → Name → ProcName
name_in texts name = named (place_of texts name)

abbrev pub body_in : List Name → List Name → Body
body_in texts body = map (name_in texts) body

abbrev pub bodies_in : List Name → List (List Name) → List Body
bodies_in texts bodies = map (body_in texts) bodies

-- a predicate with these bodies, of which there is at least one
abbrev pub predicate_with : ProcName → List Body → Predicate
predicate_with name [] = record { name = name; first = []; others = [] }
predicate_with name (first ∷ others) = record { name = name; first = first; others = others }

-- the predicate of a name: its clauses in text order
abbrev pub predicate_in : List Name → List Clause → Name → Predicate
predicate_in texts clauses name = predicate_with (name_in texts name) (bodies_in texts (bodies_of name clauses))

-- the predicates of the names that are kept, in the order in which these first appear as a head
abbrev pub predicates_in : List Name → List Clause → (Name → Bool) → List Predicate
predicates_in texts clauses keep = map (predicate_in texts clauses) (filter keep (first_heads clauses))

-- the table has the text
abbrev pub InTexts : List Name → Name → Type 0
InTexts texts name = IsTrue (list_any (bytes_eq name) texts)

-- each head is so
abbrev pub AllHeads : (Name → Type 0) → List Clause → Type 0
AllHeads P clauses = AllNames P (map (λ (clause : Clause). clause.head) clauses)

-- the table has all names of the program
abbrev pub TextsHave : List Name → Program → Type 0
TextsHave texts program =
    InTexts texts program.entry × AllHeads (InTexts texts) program.clauses × AllCalls (InTexts texts) program.clauses

-- the declaration of an entry without arguments, as code has it
abbrev pub entry_of : ProcName → Entry
entry_of name = record { name = name.name; arity = 0; modes = []; clause = 0 }

-- the code of a program, names standing at their places of a table of texts: one procedure for each name that the entry
-- reaches, in the order in which these first appear as a head, and the entry alone
pub record IsCompiled (texts : List Name) (program : Program) (code : Code) : Type 0 where
  pub closed : Closed program
  pub texts_have : TextsHave texts program
  pub keep : Name → Bool
  pub keeps_reached : (name : Name) → IsTrue (keep name) ↔ Reached program name
  pub procs_are : code.procs ≡ map proc_of (predicates_in texts program.clauses keep)
  pub entries_are : code.entries ≡ entry_of (name_in texts program.entry) ∷ []
  pub no_imports : code.imports ≡ []
  pub no_pool : code.pool ≡ []
