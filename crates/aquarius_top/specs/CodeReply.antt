-- What a text of code is answered, and what parts of code are.
use Rattle.std.specs.Prelude.{ℕ, ◌≡◌, ◌<◌, ◌≤◌, ◌+◌, List, codes, length}
use Rattle.aq_term.specs.declared.rule.Rule.{Rule}
use Rattle.aq_base.specs.Refusal.{line_of}
use Rattle.aq_base.specs.declared.refusal.Refusal.{Refusal}
use Rattle.aq_base.specs.declared.refusal.Refusal.TheVariants as refusal
use Rattle.aq_base.specs.declared.status.Status.{Status}
use Rattle.aq_base.specs.declared.status.Status.TheVariants as status
use Rattle.bam_code.specs.declared.code.Code.{Code}
use Rattle.bam_text.specs.CodeText.{code_text}
use Rattle.bam_text.specs.TextLeft.{new_lines}
use Rattle.bam_verify.specs.Handed.{IsThere}
use Rattle.aquarius_top.specs.FrontRefusal.{MOST_INPUT}
use Rattle.aquarius_top.specs.declared.code_texts.CodeFault.{CodeFault}
use Rattle.aquarius_top.specs.declared.code_texts.CodeFault.TheVariants as fault

-- an entry or a line of some code
abbrev pub IsPlaceInCode : ℕ → ℕ → Rule → Type 0
IsPlaceInCode proc line rule = (code : Code) × IsThere code (record { proc = proc; line = line; rule = rule })

-- why a text is not accepted: a line of it, or the first one that is missing; or an entry or a line that breaks a rule
abbrev pub IsVerifyRefusal : List ℕ → Refusal → Type 0
IsVerifyRefusal text (refusal.Text line) = (1 ≤ line) × (line ≤ new_lines text + 1)
IsVerifyRefusal text (refusal.Reject proc line rule) = IsPlaceInCode proc line rule
IsVerifyRefusal text _ = ⊥

abbrev pub IsVerifyFault : List ℕ → CodeFault → Type 0
IsVerifyFault text (fault.Refused cause) = IsVerifyRefusal text cause
IsVerifyFault text fault.Memory = Unit {0}

-- why parts are not joined
abbrev pub IsJoinRefusal : Refusal → Type 0
IsJoinRefusal (refusal.PartText part line) = (1 ≤ part) × (1 ≤ line)
IsJoinRefusal (refusal.PartReject part proc line rule) = IsPlaceInCode proc line rule
IsJoinRefusal (refusal.JoinName proc) = 1 ≤ proc
IsJoinRefusal (refusal.JoinImport import) = 1 ≤ import
IsJoinRefusal _ = ⊥

abbrev pub IsCodeFault : CodeFault → Type 0
IsCodeFault (fault.Refused cause) = IsJoinRefusal cause
IsCodeFault fault.Memory = Unit {0}

-- the part of this number breaks a rule
abbrev pub IsPartRefusal : ℕ → Refusal → Type 0
IsPartRefusal number (refusal.PartReject part proc line rule) = (part ≡ number) × IsPlaceInCode proc line rule
IsPartRefusal number _ = ⊥

abbrev pub IsPartFault : ℕ → CodeFault → Type 0
IsPartFault number (fault.Refused cause) = IsPartRefusal number cause
IsPartFault number fault.Memory = Unit {0}

-- the text of a code
pub record IsJoined (bytes : List ℕ) : Type 0 where
  pub texts : List (List ℕ)
  pub code : Code
  pub bytes_are : bytes ≡ code_text texts code

-- what a text is answered where it is verified
pub data VerifyReply (text : List ℕ) : List ℕ → Status → Type 0 where
  too_long : MOST_INPUT < length text → VerifyReply text (line_of refusal.InputLength) status.Refused
  refused :
      length text ≤ MOST_INPUT → (cause : Refusal) → IsVerifyRefusal text cause → VerifyReply text (line_of cause) status.Refused
  accepted : length text ≤ MOST_INPUT → VerifyReply text (codes "accepted\n") status.Solved

-- what a text is answered where its parts are joined
pub data JoinReply (text : List ℕ) : List ℕ → Status → Type 0 where
  too_long : MOST_INPUT < length text → JoinReply text (line_of refusal.InputLength) status.Refused
  refused : length text ≤ MOST_INPUT → (cause : Refusal) → IsJoinRefusal cause → JoinReply text (line_of cause) status.Refused
  joined : {bytes : List ℕ} → length text ≤ MOST_INPUT → IsJoined bytes → JoinReply text bytes status.Solved
