-- What a fault of the front is.
use Rattle.std.specs.Prelude.{ℕ, List, Option, Some, None}
use Rattle.aq_base.specs.declared.refusal.ReadKind.{ReadKind}
use Rattle.aq_base.specs.declared.refusal.Refusal.{Refusal}
use Rattle.aq_base.specs.declared.refusal.Refusal.TheVariants as refusal
use Rattle.aq_term.specs.declared.read_term.ReadTerm.{ReadTerm}
use Rattle.prolog_tokens.specs.Scan.{StopsAt}
use Rattle.prolog_tokens.specs.declared.placed.Placed.{Placed}
use Rattle.source_program.specs.declared.fault.GatherFault.{GatherFault}
use Rattle.source_program.specs.declared.fault.GatherFault.TheVariants as gathered
use Rattle.aquarius_top.specs.declared.front.FrontFault.{FrontFault}
use Rattle.aquarius_top.specs.declared.front.FrontFault.TheVariants as front
use Rattle.aquarius_top.specs.FrontRefusal.{AreRead, IsUnread}

-- a refusal of this kind, or want of memory
abbrev pub IsFaultBy : (Refusal → Type 0) → FrontFault → Type 0
IsFaultBy P (front.Refused cause) = P cause
IsFaultBy P front.Memory = Unit {0}

abbrev pub front_of : GatherFault → FrontFault
front_of (gathered.Refused cause) = front.Refused cause
front_of gathered.Memory = front.Memory

-- the tokens of the clause of this number, from a place on, stop at a byte
pub data IsStop (text : List ℕ) (from clause : ℕ) : Refusal → Type 0 where
  stop : (at : ℕ) → StopsAt text from at → IsStop text from clause (refusal.Token clause at)

-- one of the clauses has no reading
pub data IsNoReading (clauses : List (List Placed)) : Refusal → Type 0 where
  unread : (clause : ℕ) (kind : ReadKind) → IsUnread clauses clause kind → IsNoReading clauses (refusal.Read clause kind)

-- the clauses as they were read, or the first of them without a reading
abbrev pub ReadsSoFar : List (List Placed) → List ReadTerm → Option Refusal → Type 0
ReadsSoFar clauses reads None = AreRead clauses reads
ReadsSoFar clauses reads (Some cause) = IsNoReading clauses cause
