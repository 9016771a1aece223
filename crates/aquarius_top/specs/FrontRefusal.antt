-- Which refusal a text and a query get: the first that holds. Tokens of the whole text come before readings, readings before what
-- the clauses are, and that before the query.
use Rattle.std.specs.Prelude.{◌≡◌, ℕ, ◌+◌, ◌<◌, ◌≤◌, IsTrue, List, [], ◌∷◌, ◌++◌, All, length, map, Some, slice_get}
use Rattle.aq_base.specs.declared.refusal.ReadKind.{ReadKind}
use Rattle.aq_base.specs.declared.refusal.ReadKind.TheVariants as kinds
use Rattle.aq_base.specs.declared.refusal.Refusal.{Refusal}
use Rattle.aq_base.specs.declared.refusal.Refusal.TheVariants as refusal
use Rattle.aq_term.specs.PlainOf.{plain}
use Rattle.aq_term.specs.declared.entry.Entry.{Entry}
use Rattle.aq_term.specs.declared.read_term.ReadTerm.{ReadTerm}
use Rattle.prolog_tokens.specs.Layout.{Gap}
use Rattle.prolog_tokens.specs.Scan.{IsClause, StopsAt, AreQueryTokens, BreaksOff, total_weight, without_end}
use Rattle.prolog_tokens.specs.declared.placed.Placed.{Placed}
use Rattle.prolog_reader.specs.Brackets.{too_many_open}
use Rattle.prolog_reader.specs.Readable.{IsReadable}
use Rattle.source_program.specs.EntryFor.{IsEntryFor}
use Rattle.source_program.specs.Modes.{IsRefusedAt, IsTakenBy}
use Rattle.source_program.specs.TextKeys.{declared, entry_row}
use Rattle.source_program.specs.TextRefusals.{IsText, IsTextRefusal}

-- the most bytes that a source may give
abbrev pub MOST_INPUT : ℕ
MOST_INPUT = 16777216

-- more than the names that every table of atoms begins with
abbrev pub MOST_FIXED : ℕ
MOST_FIXED = 1000

-- the tokens of clauses one after another, from the text's start to a place
pub data AreClauses (text : List ℕ) : List (List Placed) → ℕ → Type 0 where
  none : AreClauses text [] 0
  more : (before : List (List Placed)) (at : ℕ) (tokens : List Placed) (end : ℕ) → AreClauses text before at → IsClause text at tokens end → AreClauses text (before ++ tokens ∷ []) end

-- the tokens of all clauses of a text, with layout alone behind them
pub record IsTokenized (text : List ℕ) (clauses : List (List Placed)) : Type 0 where
  pub end : ℕ
  pub chain : AreClauses text clauses end
  pub gap : Gap text end (length text)

-- a clause whose tokens stop at a byte, behind clauses with tokens
pub record StopsIn (text : List ℕ) (clause at : ℕ) : Type 0 where
  pub before : List (List Placed)
  pub end : ℕ
  pub chain : AreClauses text before end
  pub number : clause ≡ length before + 1
  pub stops : StopsAt text end at

-- what is known of the term that tokens were read as
pub record IsReading (tokens : List Placed) (read : ReadTerm) : Type 0 where
  pub readable : IsReadable read (total_weight tokens)
  pub weight : read.weight ≡ total_weight tokens

pub data AreRead : List (List Placed) → List ReadTerm → Type 0 where
  none : AreRead [] []
  more : (clauses : List (List Placed)) (reads : List ReadTerm) (tokens : List Placed) (read : ReadTerm) → AreRead clauses reads → IsReading tokens read → AreRead (clauses ++ tokens ∷ []) (reads ++ read ∷ [])

-- the first clause without a reading; too many open brackets come before other causes
pub record IsUnread (clauses : List (List Placed)) (clause : ℕ) (kind : ReadKind) : Type 0 where
  pub before : List (List Placed)
  pub tokens : List Placed
  pub after : List (List Placed)
  pub split : clauses ≡ before ++ tokens ∷ after
  pub number : clause ≡ length before + 1
  pub reads : List ReadTerm
  pub read : AreRead before reads
  pub brackets : IsTrue (too_many_open 0 (without_end tokens)) → kind ≡ kinds.Depth

-- the clauses of a text, as they were read
pub record IsReadAs (text : List ℕ) (reads : List ReadTerm) : Type 0 where
  pub clauses : List (List Placed)
  pub tokenized : IsTokenized text clauses
  pub read : AreRead clauses reads

-- a text that makes a program, with its entries
pub record IsProgramText (text : List ℕ) (entries : List Entry) : Type 0 where
  pub reads : List ReadTerm
  pub read : IsReadAs text reads
  pub is_text : IsText reads
  pub rows : map entry_row entries ≡ declared reads

-- the query has a reading
pub record IsQuery (query : List ℕ) (read : ReadTerm) : Type 0 where
  pub few : length query ≤ MOST_INPUT
  pub tokens : List Placed
  pub tokenized : AreQueryTokens query tokens
  pub reading : IsReading tokens read

-- the entry at this place is the query's, and takes all its arguments
abbrev pub IsEntered : List ℕ → List Entry → ℕ → Type 0
IsEntered query entries place =
    (read : ReadTerm) × IsQuery query read × (entry : Entry) × (slice_get entries place ≡ Some entry) × IsTakenBy (plain read.term) entry

-- the query is too long, or no token begins at a byte of it, or its tokens have no reading
pub data IsNoQuery (query : List ℕ) : Type 0 where
  too_long : MOST_INPUT < length query → IsNoQuery query
  tokens : (at : ℕ) → BreaksOff query at → IsNoQuery query
  reading : length query ≤ MOST_INPUT → (tokens : List Placed) → AreQueryTokens query tokens → IsNoQuery query

-- the refusal of a query on these entries
pub data IsQueryRefusal (query : List ℕ) (entries : List Entry) : Refusal → Type 0 where
  syntax_fault : IsNoQuery query → IsQueryRefusal query entries refusal.QuerySyntax
  not_entry : (read : ReadTerm) → IsQuery query read → All (λ entry. ¬ IsEntryFor (plain read.term) entry) entries → IsQueryRefusal query entries refusal.NotEntry
  mode : (read : ReadTerm) → IsQuery query read → (argument : ℕ) → IsRefusedAt (plain read.term) entries argument → IsQueryRefusal query entries (refusal.QueryMode argument)

-- the refusal of a text and a query, a row for each stage; what the machine cannot run is refused last
pub data FrontRefuses (text query : List ℕ) : Refusal → Type 0 where
  token : (clause at : ℕ) → StopsIn text clause at → FrontRefuses text query (refusal.Token clause at)
  unread : (clause : ℕ) (kind : ReadKind) (clauses : List (List Placed)) → IsTokenized text clauses → IsUnread clauses clause kind → FrontRefuses text query (refusal.Read clause kind)
  program : (reads : List ReadTerm) (cause : Refusal) → IsReadAs text reads → IsTextRefusal reads cause → FrontRefuses text query cause
  query : (entries : List Entry) (cause : Refusal) → IsProgramText text entries → IsQueryRefusal query entries cause → FrontRefuses text query cause
  unsupported : (entries : List Entry) (read : ReadTerm) → IsProgramText text entries → IsQuery query read → FrontRefuses text query refusal.Unsupported
