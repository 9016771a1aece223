-- What a program is answered where its facts are asked for.
use Rattle.std.specs.Prelude.{ℕ, ◌≡◌, ◌<◌, ◌≤◌, List, length}
use Rattle.aq_base.specs.Refusal.{line_of}
use Rattle.aq_base.specs.declared.refusal.Refusal.{Refusal}
use Rattle.aq_base.specs.declared.refusal.Refusal.TheVariants as refusal
use Rattle.aq_base.specs.declared.status.Status.{Status}
use Rattle.aq_base.specs.declared.status.Status.TheVariants as status
use Rattle.aq_term.specs.declared.entry.Entry.{Entry}
use Rattle.facts_text.specs.FactsText.{lines_text}
use Rattle.flow_equations.specs.declared.predicate_facts.PredicateFacts.{PredicateFacts}
use Rattle.aquarius_top.specs.FrontRefusal.{MOST_INPUT, FrontRefuses, IsProgramText}

-- the text is refused for this cause whatever the query
abbrev pub IsProgramRefusal : List ℕ → Refusal → Type 0
IsProgramRefusal text cause = (query : List ℕ) → FrontRefuses text query cause

-- the text makes a program, and the bytes are the lines of facts of predicates; which facts is not said here
pub record IsAnalysed (text bytes : List ℕ) : Type 0 where
  pub entries : List Entry
  pub program : IsProgramText text entries
  pub names : List (List ℕ)
  pub facts : List PredicateFacts
  pub bytes_are : bytes ≡ lines_text names facts

pub data AnalyseReply (text : List ℕ) : List ℕ → Status → Type 0 where
  too_long : MOST_INPUT < length text → AnalyseReply text (line_of refusal.InputLength) status.Refused
  refused : length text ≤ MOST_INPUT → (cause : Refusal) → IsProgramRefusal text cause → AnalyseReply text (line_of cause) status.Refused
  analysed : {bytes : List ℕ} → length text ≤ MOST_INPUT → IsAnalysed text bytes → AnalyseReply text bytes status.Solved
