-- What a code that is not accepted is answered with.
use Rattle.std.specs.Prelude.{◌≡◌, ◌↔◌, ◌⊎◌, ◌-◌, ◌≤◌, ℕ, List, [], Some, slice_get, length}
use Rattle.aq_term.specs.declared.rule.Rule.TheVariants as rule
use Rattle.bam_code.specs.declared.code.Code.{Code}
use Rattle.bam_code.specs.declared.line.Line.{Line}
use Rattle.bam_code.specs.declared.procedure.Proc.{Proc}
use Rattle.bam_verify.specs.Accepts.{first_reject}
use Rattle.bam_verify.specs.declared.broken.Broken.{Broken}
use Rattle.bam_verify.specs.declared.reject.Reject.{Reject}
use Rattle.bam_verify.specs.declared.verify_fault.VerifyFault.{VerifyFault}
use Rattle.bam_verify.specs.declared.verify_fault.VerifyFault.TheVariants as fault

-- the number of an item, counted from 1
abbrev pub IsNumberOf : {A : Type 0} → List A → ℕ → Type 0
IsNumberOf items number = (1 ≤ number) × (number ≤ length items)

-- a line of these, counted from 1; where there is none, the first one
abbrev pub IsLineOf : List Line → ℕ → Type 0
IsLineOf lines line = IsNumberOf lines line ⊎ ((lines ≡ []) × (line ≡ 1))

-- a line of these that breaks a rule
abbrev pub IsBrokenLine : List Line → Broken → Type 0
IsBrokenLine lines broken =
    IsLineOf lines broken.line × (broken.rule ≡ rule.Entry → ⊥)

-- a line of a procedure, both counted from 1
abbrev pub IsPlace : List Proc → ℕ → ℕ → Type 0
IsPlace procs proc line =
    IsNumberOf procs proc × ((found : Proc) → slice_get procs (proc - 1) ≡ Some found → IsLineOf found.lines line)

-- an entry, counted from 1, under procedure 0, or a line of a procedure
abbrev pub IsThere : Code → Reject → Type 0
IsThere code reject =
    ((reject.rule ≡ rule.Entry) × (reject.proc ≡ 0) × IsNumberOf code.entries reject.line)
    ⊎ ((reject.rule ≡ rule.Entry → ⊥) × IsPlace code.procs reject.proc reject.line)

-- the code is handed back as it was given, and a rejected place is there and is the first one that breaks a rule
abbrev pub HandsBack : Code → VerifyFault → Type 0
HandsBack code (fault.Rejected back reject) =
    (back ≡ code) × (first_reject code ≡ Some reject) × IsThere code reject
HandsBack code (fault.Memory back) = back ≡ code
