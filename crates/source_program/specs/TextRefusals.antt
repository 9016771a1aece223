-- Which refusal the clauses of a text get: the first that holds.
use Rattle.std.specs.Prelude.{◌≡◌, ◌≢◌, ℕ, ◌+◌, Bool, true, false, if◌then◌else◌, List, [], ◌∷◌, ◌++◌, Option, Some, None, length, All}
use Rattle.aq_base.specs.declared.refusal.FormKind.{FormKind}
use Rattle.aq_base.specs.declared.refusal.FormKind.TheVariants as kinds
use Rattle.aq_base.specs.declared.refusal.LimitKind.{LimitKind}
use Rattle.aq_base.specs.declared.refusal.Refusal.{Refusal}
use Rattle.aq_base.specs.declared.refusal.Refusal.TheVariants as refusal
use Rattle.aq_term.specs.PlainOf.{plain}
use Rattle.aq_term.specs.declared.read_term.ReadTerm.{ReadTerm}
use Rattle.source_program.specs.ClauseFaults.{first_of, form_fault}
use Rattle.source_program.specs.Keys.{Key, entry_key}
use Rattle.source_program.specs.KeySets.{is_among}
use Rattle.source_program.specs.Limits.{KeptLimits, PassesLimit}
use Rattle.source_program.specs.TextKeys.{Declared, declared, declared_keys, defined, defined_keys}
use Rattle.source_program.specs.declared.fault.GatherFault.{GatherFault}
use Rattle.source_program.specs.declared.fault.GatherFault.TheVariants as fault

-- a second entry for one predicate is the fault of its directive
abbrev pub second_fault : List Key → Option Key → Option FormKind
second_fault ks None = None
second_fault ks (Some k) = if is_among ks k then Some kinds.Directive else None

-- the form fault of a clause behind others
abbrev pub fault_behind : List ReadTerm → ReadTerm → Option FormKind
fault_behind before r =
    first_of (form_fault (length r.names) (plain r.term)) (second_fault (declared_keys before) (entry_key (plain r.term)))

-- clauses of which none has a form fault
pub data HaveForms : List ReadTerm → Type 0 where
  none : HaveForms []
  more : (before : List ReadTerm) (r : ReadTerm) → HaveForms before → fault_behind before r ≡ None → HaveForms (before ++ r ∷ [])

-- the first clause that has a form fault
pub record IsFirstFault (cs : List ReadTerm) (clause : ℕ) (kind : FormKind) : Type 0 where
  pub before : List ReadTerm
  pub read : ReadTerm
  pub after : List ReadTerm
  pub split : cs ≡ before ++ read ∷ after
  pub number : clause ≡ length before + 1
  pub forms : HaveForms before
  pub fault : fault_behind before read ≡ Some kind

abbrev pub IsKnown : (Key → Bool) → Declared → Type 0
IsKnown known d = known d.key ≡ true

-- the first entry whose predicate has no clause
pub record IsFirstUndefined (rows : List Declared) (known : Key → Bool) (clause : ℕ) : Type 0 where
  pub before : List Declared
  pub row : Declared
  pub after : List Declared
  pub split : rows ≡ before ++ row ∷ after
  pub number : clause ≡ row.clause
  pub defined : All (IsKnown known) before
  pub undefined : known row.key ≡ false

pub data IsEntryRefusal (rows : List Declared) (known : Key → Bool) : Refusal → Type 0 where
  no_entry : rows ≡ [] → IsEntryRefusal rows known refusal.NoEntry
  undefined : (clause : ℕ) → IsFirstUndefined rows known clause → IsEntryRefusal rows known (refusal.EntryUndefined clause)

-- the predicate has a clause
abbrev pub has_clause : List ReadTerm → Key → Bool
has_clause cs k = is_among (defined_keys cs) k

-- the refusal of a text's clauses: forms come before limits, limits before entries
pub data IsTextRefusal (cs : List ReadTerm) : Refusal → Type 0 where
  form : (clause : ℕ) (kind : FormKind) → IsFirstFault cs clause kind → IsTextRefusal cs (refusal.Form clause kind)
  limit : (clause : ℕ) (kind : LimitKind) → HaveForms cs → PassesLimit (defined cs) clause kind → IsTextRefusal cs (refusal.Limit clause kind)
  no_entry : HaveForms cs → KeptLimits (defined cs) → declared cs ≡ [] → IsTextRefusal cs refusal.NoEntry
  entry_undefined : (clause : ℕ) → HaveForms cs → KeptLimits (defined cs) → IsFirstUndefined (declared cs) (has_clause cs) clause → IsTextRefusal cs (refusal.EntryUndefined clause)

-- clauses that make a program: no refusal holds
pub record IsText (cs : List ReadTerm) : Type 0 where
  pub forms : HaveForms cs
  pub limits : KeptLimits (defined cs)
  pub entered : declared cs ≢ []
  pub defined : All (IsKnown (has_clause cs)) (declared cs)

-- a refusal of this kind, or want of memory
abbrev pub IsFaultBy : (Refusal → Type 0) → GatherFault → Type 0
IsFaultBy P (fault.Refused r) = P r
IsFaultBy P fault.Memory = Unit {0}
