-- Which predicate a clause defines or declares to be an entry: the number of its name, and how many arguments it has.
use Rattle.std.specs.Prelude.{◌≡◌, ℕ, ◌+◌, ◌==◌, if◌then◌else◌, Option, Some, None, option_and_then, length}
use Rattle.term_meaning.specs.Plain.{Plain, Plains, variable, integer, atom, compound, none, more}
use Rattle.dcg_rules.specs.Grammar as grammar
use Rattle.source_program.specs.Arguments.{text_arguments}
use Rattle.source_program.specs.ClauseFaults.{count}
use Rattle.source_program.specs.declared.clause_form.ClauseForm.{ClauseForm}
use Rattle.source_program.specs.declared.clause_form.ClauseForm.TheVariants as form

abbrev pub Key : Type 0
Key = ℕ × ℕ

abbrev pub term_key : Plain → Option Key
term_key (variable n) = None
term_key (integer z) = None
term_key (atom n) = Some (n, 0)
term_key (compound n ts) = Some (n, count ts)

-- of a rule or a fact
abbrev pub clause_key_of : ℕ → Plains → Option Key
clause_key_of n none = Some (n, 0)
clause_key_of n (more a none) = Some (n, 1)
clause_key_of n (more a (more b none)) = if n == grammar.rule then term_key a else Some (n, 2)
clause_key_of n (more a (more b (more c ts))) = Some (n, count ts + 3)

abbrev pub clause_key : Plain → Option Key
clause_key (variable n) = None
clause_key (integer z) = None
clause_key (atom n) = Some (n, 0)
clause_key (compound n ts) = clause_key_of n ts

-- of a grammar rule with this head in a clause of so many variables
abbrev pub grammar_key : ℕ → Plain → Option Key
grammar_key variables head = option_and_then term_key (grammar.head_of head variables (variables + 1))

abbrev pub defined_key_of : ℕ → ℕ → Plains → Option Key
defined_key_of variables n none = clause_key_of n none
defined_key_of variables n (more a none) = if n == grammar.rule then None else clause_key_of n (more a none)
defined_key_of variables n (more a (more b none)) =
    if n == grammar.derives
    then grammar_key variables a
    else clause_key_of n (more a (more b none))
defined_key_of variables n (more a (more b (more c ts))) = clause_key_of n (more a (more b (more c ts)))

-- what a clause of so many variables defines; a directive defines nothing
abbrev pub defined_key : ℕ → Plain → Option Key
defined_key variables (variable n) = None
defined_key variables (integer z) = None
defined_key variables (atom n) = Some (n, 0)
defined_key variables (compound n ts) = defined_key_of variables n ts

abbrev pub target_key_of : Plains → Option Key
target_key_of none = None
target_key_of (more t none) = term_key t
target_key_of (more t (more u ts)) = None

abbrev pub directive_key : Plain → Option Key
directive_key (variable n) = None
directive_key (integer z) = None
directive_key (atom n) = None
directive_key (compound n ts) = target_key_of ts

abbrev pub entry_key_of : ℕ → Plains → Option Key
entry_key_of n none = None
entry_key_of n (more a none) = if n == grammar.rule then directive_key a else None
entry_key_of n (more a (more b ts)) = None

-- what a directive declares to be an entry
abbrev pub entry_key : Plain → Option Key
entry_key (variable n) = None
entry_key (integer z) = None
entry_key (atom n) = None
entry_key (compound n ts) = entry_key_of n ts

-- the form is the entry for the predicate of this key
abbrev pub IsEntryWith : Option Key → ClauseForm → Type 0
IsEntryWith key (form.Entry e) = key ≡ Some (e.name.number, e.arity)
IsEntryWith key (form.Clause c) = ⊥

-- the form is a clause of the predicate of this key, whose head and calls have at most so many arguments
abbrev pub IsClauseWith : Option Key → ℕ → ClauseForm → Type 0
IsClauseWith key arguments (form.Entry e) = ⊥
IsClauseWith key arguments (form.Clause c) =
    (key ≡ Some (c.name.number, length c.clause.head)) × (arguments ≡ c.clause.most_arguments)

-- the form is what the clause of so many variables declares or defines
abbrev pub HasKeys : ℕ → Plain → ClauseForm → Type 0
HasKeys variables t (form.Entry e) =
    (entry_key t ≡ Some (e.name.number, e.arity)) × (defined_key variables t ≡ None)
HasKeys variables t (form.Clause c) =
    (entry_key t ≡ None)
    × (defined_key variables t ≡ Some (c.name.number, length c.clause.head))
    × (text_arguments variables t ≡ c.clause.most_arguments)
