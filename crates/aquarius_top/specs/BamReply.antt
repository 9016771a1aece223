-- What a program is answered where its code is asked for.
use Rattle.std.specs.Prelude.{ℕ, ◌≡◌, ◌<◌, ◌≤◌, None, List, length}
use Rattle.aq_base.specs.Refusal.{line_of}
use Rattle.aq_base.specs.declared.refusal.Refusal.{Refusal}
use Rattle.aq_base.specs.declared.refusal.Refusal.TheVariants as refusal
use Rattle.aq_base.specs.declared.status.Status.{Status}
use Rattle.aq_base.specs.declared.status.Status.TheVariants as status
use Rattle.aq_term.specs.declared.entry.Entry.{Entry}
use Rattle.bam_code.specs.declared.code.Code.{Code}
use Rattle.bam_text.specs.CodeText.{code_text}
use Rattle.bam_verify.specs.Accepts.{first_reject}
use Rattle.aquarius_top.specs.AnalyseReply.{IsProgramRefusal}
use Rattle.aquarius_top.specs.FrontRefusal.{MOST_INPUT, IsProgramText}

-- the text makes a program
abbrev pub IsProgram : List ℕ → Type 0
IsProgram text = (entries : List Entry) × IsProgramText text entries

-- the text makes a program, and the bytes are the text of a code that keeps all rules; which code is not said here
pub record IsPrinted (text bytes : List ℕ) : Type 0 where
  pub program : IsProgram text
  pub names : List (List ℕ)
  pub code : Code
  pub accepted : first_reject code ≡ None
  pub bytes_are : bytes ≡ code_text names code

-- the text is refused for this cause; a program whose code is rejected is refused last
pub data IsBamRefusal (text : List ℕ) : Refusal → Type 0 where
  front : (cause : Refusal) → IsProgramRefusal text cause → IsBamRefusal text cause
  unsupported : IsProgram text → IsBamRefusal text refusal.Unsupported

-- what a text is answered
pub data BamReply (text : List ℕ) : List ℕ → Status → Type 0 where
  too_long : MOST_INPUT < length text → BamReply text (line_of refusal.InputLength) status.Refused
  refused : length text ≤ MOST_INPUT → (cause : Refusal) → IsBamRefusal text cause → BamReply text (line_of cause) status.Refused
  printed : {bytes : List ℕ} → length text ≤ MOST_INPUT → IsPrinted text bytes → BamReply text bytes status.Solved
