-- What gathering refuses, and that it names a clause that is there.
use Rattle.std.specs.Prelude.{ℕ, ◌<◌, ◌≤◌}
use Rattle.aq_base.specs.declared.refusal.Refusal.{Refusal}
use Rattle.aq_base.specs.declared.refusal.Refusal.TheVariants as refusal
use Rattle.source_program.specs.declared.fault.GatherFault.{GatherFault}
use Rattle.source_program.specs.declared.fault.GatherFault.TheVariants as fault

-- a clause's number among so many, from 1
abbrev pub IsNumber : ℕ → ℕ → Type 0
IsNumber count number = (0 < number) × (number ≤ count)

-- a refusal of one of so many clauses, or of their having no entry
abbrev pub IsOfClauses : ℕ → Refusal → Type 0
IsOfClauses count refusal.InputLength = ⊥
IsOfClauses count (refusal.Token clause at) = ⊥
IsOfClauses count (refusal.Read clause kind) = ⊥
IsOfClauses count (refusal.Form clause kind) = IsNumber count clause
IsOfClauses count (refusal.Limit clause kind) = IsNumber count clause
IsOfClauses count refusal.NoEntry = Unit {0}
IsOfClauses count (refusal.EntryUndefined clause) = IsNumber count clause
IsOfClauses count refusal.QuerySyntax = ⊥
IsOfClauses count refusal.NotEntry = ⊥
IsOfClauses count (refusal.QueryMode argument) = ⊥
IsOfClauses count (refusal.Text line) = ⊥
IsOfClauses count (refusal.Reject proc line rule) = ⊥
IsOfClauses count (refusal.Undefined import) = ⊥
IsOfClauses count (refusal.PartText part line) = ⊥
IsOfClauses count (refusal.PartReject part proc line rule) = ⊥
IsOfClauses count (refusal.JoinName proc) = ⊥
IsOfClauses count (refusal.JoinImport import) = ⊥
IsOfClauses count refusal.Unsupported = ⊥

abbrev pub IsFaultOf : ℕ → GatherFault → Type 0
IsFaultOf count (fault.Refused r) = IsOfClauses count r
IsFaultOf count fault.Memory = Unit {0}
