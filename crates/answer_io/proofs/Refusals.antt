-- A fault of the entries refuses the query.
use Rattle.std.proofs.Common.{◌≡◌, ℕ, List, refl}
use Rattle.std.specs.Prelude.{All}
use Rattle.aq_term.specs.PlainOf.{plain}
use Rattle.aq_term.specs.declared.entry.Entry.{Entry}
use Rattle.aq_term.specs.declared.read_term.ReadTerm.{ReadTerm}
use Rattle.source_program.specs.EntryFor.{IsEntryFor}
use Rattle.source_program.specs.Modes.{IsRefusedAt}
use Rattle.source_program.specs.declared.query_entry.EntryFault.{EntryFault}
use Rattle.source_program.specs.declared.query_entry.EntryFault.TheVariants as entry_fault
use Rattle.answer_io.specs.QueryText.{IsQuery}
use Rattle.answer_io.specs.Loaded.{IsRefusedBy, fault_of}

pub refused_as : (text : List ℕ) (entries : List Entry) (read : ReadTerm) (f : EntryFault) → IsQuery text read
    → (f ≡ entry_fault.NotEntry → All (λ entry. ¬ IsEntryFor (plain read.term) entry) entries)
    → ((argument : ℕ) → f ≡ entry_fault.Mode argument → IsRefusedAt (plain read.term) entries argument)
    → IsRefusedBy text entries (fault_of f)
refused_as text entries read entry_fault.NotEntry is none at = IsRefusedBy.not_entry read is (none refl)
refused_as text entries read (entry_fault.Mode argument) is none at = IsRefusedBy.mode read is argument (at argument refl)
refused_as text entries read entry_fault.Memory is none at = IsRefusedBy.memory
