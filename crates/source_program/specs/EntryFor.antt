-- Which entry a query is of.
use Rattle.std.specs.Prelude.{◌≡◌, length}
use Rattle.term_meaning.specs.Plain.{Plain, variable, integer, atom, compound, items}
use Rattle.aq_term.specs.declared.entry.Entry.{Entry}

-- the entry has the query's name and number of arguments
abbrev pub IsEntryFor : Plain → Entry → Type 0
IsEntryFor (variable n) e = ⊥
IsEntryFor (integer z) e = ⊥
IsEntryFor (atom n) e = (n ≡ e.name.number) × (0 ≡ e.arity)
IsEntryFor (compound n ts) e = (n ≡ e.name.number) × (length (items ts) ≡ e.arity)
