-- What the text of a query says.
use Rattle.std.specs.Prelude.{◌≡◌, ℕ, ◌<◌, ◌≤◌, List, length}
use Rattle.aq_term.specs.declared.read_term.ReadTerm.{ReadTerm}
use Rattle.prolog_tokens.specs.Scan.{AreQueryTokens, BreaksOff, total_weight}
use Rattle.prolog_tokens.specs.declared.placed.Placed.{Placed}
use Rattle.prolog_reader.specs.Readable.{IsReadable}

-- the most bytes that a query may have
abbrev pub MOST_QUERY : ℕ
MOST_QUERY = 16777216

-- what is known of the term that tokens were read as
pub record IsReading (tokens : List Placed) (read : ReadTerm) : Type 0 where
  pub readable : IsReadable read (total_weight tokens)
  pub weight : read.weight ≡ total_weight tokens

-- the query has a reading
pub record IsQuery (query : List ℕ) (read : ReadTerm) : Type 0 where
  pub few : length query ≤ MOST_QUERY
  pub tokens : List Placed
  pub tokenized : AreQueryTokens query tokens
  pub reading : IsReading tokens read

-- the query is too long, or no token begins at a byte of it, or its tokens have no reading
pub data IsNoQuery (query : List ℕ) : Type 0 where
  too_long : MOST_QUERY < length query → IsNoQuery query
  tokens : (at : ℕ) → BreaksOff query at → IsNoQuery query
  reading : length query ≤ MOST_QUERY → (tokens : List Placed) → AreQueryTokens query tokens → IsNoQuery query
