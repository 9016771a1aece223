-- What is loaded of a query, and when it is refused.
use Rattle.std.specs.Prelude.{◌≡◌, ℕ, List, All, Some, length, slice_get}
use Rattle.aq_term.specs.PlainOf.{plain}
use Rattle.aq_term.specs.declared.entry.Entry.{Entry}
use Rattle.aq_term.specs.declared.read_term.ReadTerm.{ReadTerm}
use Rattle.source_program.specs.EntryFor.{IsEntryFor}
use Rattle.source_program.specs.declared.query_entry.EntryFault.{EntryFault}
use Rattle.source_program.specs.declared.query_entry.EntryFault.TheVariants as entry_fault
use Rattle.source_program.specs.Modes.{IsRefusedAt, IsTakenBy, arguments}
use Rattle.answer_io.specs.QueryText.{IsQuery, IsNoQuery}
use Rattle.answer_io.specs.declared.query.Query.{Query}
use Rattle.answer_io.specs.declared.query_fault.QueryFault.{QueryFault}
use Rattle.answer_io.specs.declared.query_fault.QueryFault.TheVariants as fault

-- the query is the term that was read, for the entry at this place, with a cell for each variable
pub record IsMadeOf (read : ReadTerm) (place : ℕ) (query : Query) : Type 0 where
  pub entry : query.entry ≡ place
  pub args : query.args ≡ arguments (plain read.term)
  pub names : query.names ≡ read.names
  pub cells : length query.cells ≡ length read.names
  pub weight : query.weight ≡ read.weight

-- the query is that of a text, and its entry takes all its arguments
pub record IsLoaded (text : List ℕ) (entries : List Entry) (query : Query) : Type 0 where
  pub read : ReadTerm
  pub is_query : IsQuery text read
  pub place : ℕ
  pub entry : Entry
  pub found : slice_get entries place ≡ Some entry
  pub taken : IsTakenBy (plain read.term) entry
  pub made : IsMadeOf read place query

-- the same cause as a fault of a query
abbrev pub fault_of : EntryFault → QueryFault
fault_of entry_fault.NotEntry = fault.NotEntry
fault_of (entry_fault.Mode argument) = fault.QueryMode argument
fault_of entry_fault.Memory = fault.Memory

-- why a query on these entries is not taken
pub data IsRefusedBy (text : List ℕ) (entries : List Entry) : QueryFault → Type 0 where
  no_term : IsNoQuery text → IsRefusedBy text entries fault.QuerySyntax
  not_entry : (read : ReadTerm) → IsQuery text read → All (λ entry. ¬ IsEntryFor (plain read.term) entry) entries → IsRefusedBy text entries fault.NotEntry
  mode : (read : ReadTerm) → IsQuery text read → (argument : ℕ) → IsRefusedAt (plain read.term) entries argument → IsRefusedBy text entries (fault.QueryMode argument)
  memory : IsRefusedBy text entries fault.Memory
