-- Entries as code has them.
use Rattle.aq_term.specs.declared.entry.Entry.{Entry}

abbrev pub code_entry : Entry → Entry
code_entry e = record { name = e.name; arity = e.arity; modes = e.modes; clause = 0 }
