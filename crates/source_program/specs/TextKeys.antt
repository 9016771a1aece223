-- What the clauses of a text declare and define, in the order of the text.
use Rattle.std.specs.Prelude.{ℕ, ◌+◌, Bool, false, List, [], ◌∷◌, ◌++◌, Option, Some, None, length, map}
use Rattle.aq_term.specs.PlainOf.{plain}
use Rattle.aq_term.specs.declared.entry.Entry.{Entry}
use Rattle.aq_term.specs.declared.read_term.ReadTerm.{ReadTerm}
use Rattle.source_program.specs.Arguments.{text_arguments}
use Rattle.source_program.specs.Keys.{Key, entry_key, defined_key}
use Rattle.source_program.specs.KeySets.{is_among}
use Rattle.source_program.specs.declared.clause_form.NamedClause.{NamedClause}
use Rattle.source_program.specs.declared.clause_form.ClauseForm.{ClauseForm}
use Rattle.source_program.specs.declared.clause_form.ClauseForm.TheVariants as form

-- a predicate that a directive declares to be an entry, and the number of that clause, from 1
pub record Declared : Type 0 where
  pub key : Key
  pub clause : ℕ

-- a clause by its predicate and its number, with the most arguments of its head and its calls
pub record Defined : Type 0 where
  pub key : Key
  pub clause : ℕ
  pub arguments : ℕ

abbrev pub declared_of : Option Key → ℕ → List Declared
declared_of None number = []
declared_of (Some k) number = record { key = k; clause = number } ∷ []

abbrev pub defined_of : Option Key → ℕ → ℕ → List Defined
defined_of None number arguments = []
defined_of (Some k) number arguments = record { key = k; clause = number; arguments = arguments } ∷ []

abbrev pub declared_by : ℕ → ReadTerm → List Declared
declared_by number r = declared_of (entry_key (plain r.term)) number

abbrev pub defined_by : ℕ → ReadTerm → List Defined
defined_by number r =
    defined_of (defined_key (length r.names) (plain r.term)) number (text_arguments (length r.names) (plain r.term))

-- what each clause gives, numbered from this number on
abbrev pub numbered : {A : Type 0} → (ℕ → ReadTerm → List A) → ℕ → List ReadTerm → List A
numbered f number [] = []
numbered f number (r ∷ rs) = f number r ++ numbered f (number + 1) rs

abbrev pub declared : List ReadTerm → List Declared
declared cs = numbered declared_by 1 cs

abbrev pub defined : List ReadTerm → List Defined
defined cs = numbered defined_by 1 cs

abbrev pub declared_keys : List ReadTerm → List Key
declared_keys cs = map (λ d. d.key) (declared cs)

abbrev pub defined_keys : List ReadTerm → List Key
defined_keys cs = map (λ d. d.key) (defined cs)

-- the same of what was gathered
abbrev pub entry_row : Entry → Declared
entry_row e = record { key = (e.name.number, e.arity); clause = e.clause }

abbrev pub clause_row : NamedClause → Defined
clause_row c = record {
  key = (c.name.number, length c.clause.head);
  clause = c.clause.number;
  arguments = c.clause.most_arguments;
}

abbrev pub clause_key_row : NamedClause → Key
clause_key_row c = (c.name.number, length c.clause.head)

abbrev pub entries_with : ClauseForm → List Entry → List Entry
entries_with (form.Entry e) es = es ++ e ∷ []
entries_with (form.Clause c) es = es

abbrev pub clauses_with : ClauseForm → List NamedClause → List NamedClause
clauses_with (form.Entry e) cs = cs
clauses_with (form.Clause c) cs = cs ++ c ∷ []

abbrev pub keys_with : ClauseForm → List Key → List Key
keys_with (form.Entry e) ks = ks ++ (e.name.number, e.arity) ∷ []
keys_with (form.Clause c) ks = ks

-- the form is an entry for one of these predicates
abbrev pub is_declared : ClauseForm → List Key → Bool
is_declared (form.Entry e) ks = is_among ks (e.name.number, e.arity)
is_declared (form.Clause c) ks = false
