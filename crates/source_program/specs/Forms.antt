-- What is known of the clauses of a text that have a form of the language.
use Rattle.std.specs.Prelude.{ℕ, ◌≡◌, length}
use Rattle.aq_term.specs.declared.entry.Entry.{Entry}
use Rattle.source_program.specs.declared.clause_form.ClauseForm.{ClauseForm}
use Rattle.source_program.specs.declared.clause_form.ClauseForm.TheVariants as form

-- an entry has one mode for each argument
abbrev pub HasModes : Entry → Type 0
HasModes e = length e.modes ≡ e.arity

-- the form of the clause of this number
abbrev pub IsFormOf : ℕ → ClauseForm → Type 0
IsFormOf number (form.Entry e) = (e.clause ≡ number) × HasModes e
IsFormOf number (form.Clause c) = c.clause.number ≡ number
