-- Tokens in their places.
use Rattle.std.specs.Prelude.{◌≡◌, ◌≢◌, ℕ, ◌+◌, ◌-◌, ◌*◌, ◌<◌, ◌≤◌, ◌==◌, ◌||◌, ◌↔◌, Bool, true, false, if◌then◌else◌, IsTrue, List, [], ◌∷◌, ◌++◌, length, slice_index, All, sum_by, slice_get, take}
use Rattle.std.specs.Option.{option_map_or}
use Rattle.std.specs.Str.{chars}
use Rattle.prolog_tokens.specs.Layout.{is_blank, Gap, NoGap}
use Rattle.prolog_tokens.specs.declared.token.Token.{Token}
use Rattle.prolog_tokens.specs.declared.token.Token.TheVariants.{Name, Variable, Integer, WideInteger, Codes, Punct, End}
use Rattle.prolog_tokens.specs.declared.placed.Placed.{Placed}
use Rattle.prolog_tokens.specs.declared.fault.TokenFault.{TokenFault}
use Rattle.prolog_tokens.specs.declared.fault.TokenFault.TheVariants.{At, Memory}
use Rattle.prolog_tokens.specs.declared.digits.TheConstants.{GREATEST}

-- what a token counts in the weight of a clause
abbrev pub weight_of : Token → ℕ
weight_of (Codes text) = 2 * length (chars text) + 1
weight_of (Name text quoted) = 1
weight_of (Variable text) = 1
weight_of (Integer n) = 1
weight_of WideInteger = 1
weight_of (Punct b) = 1
weight_of End = 1

abbrev pub is_end : Token → Bool
is_end End = true
is_end (Codes text) = false
is_end (Name text quoted) = false
is_end (Variable text) = false
is_end (Integer n) = false
is_end WideInteger = false
is_end (Punct b) = false

-- an integer is in the range of those that a token holds, and punctuation is one of its eight bytes
abbrev pub IsInRange : Token → Type 0
IsInRange (Integer n) = n ≤ GREATEST
IsInRange (Codes text) = Unit {0}
IsInRange (Name text quoted) = Unit {0}
IsInRange (Variable text) = Unit {0}
IsInRange WideInteger = Unit {0}
IsInRange (Punct b) = Unit {0}
IsInRange End = Unit {0}

-- a `.` stands at a place, and layout, `%` or the text's end right after it
pub record IsEndAt (text : List ℕ) (at : ℕ) : Type 0 where
  pub begins : at < length text
  pub dot : slice_index text at ≡ 46
  pub after : at + 1 < length text → IsTrue (is_blank (slice_index text (at + 1)) || slice_index text (at + 1) == 37)

-- a token stands behind the layout and comments that begin at a place, and ends before another
pub record IsTokenAt (text : List ℕ) (from : ℕ) (p : Placed) (end : ℕ) : Type 0 where
  pub gap : Gap text from p.at
  pub no_gap : NoGap text p.at
  pub room : p.at < end
  pub high : end ≤ length text
  pub tight : IsTrue p.tight ↔ (p.at ≡ from)
  pub weight : p.weight ≡ weight_of p.token
  pub light : p.weight ≤ 3 * (end - p.at)
  pub in_range : IsInRange p.token
  pub ends : IsTrue (is_end p.token) → IsEndAt text p.at × (end ≡ p.at + 1)

-- tokens one after another, from one place to another
pub data AreTokens (text : List ℕ) (from : ℕ) : List Placed → ℕ → Type 0 where
  none : AreTokens text from [] from
  more : (ps : List Placed) (at : ℕ) (p : Placed) (end : ℕ) → AreTokens text from ps at → IsTokenAt text at p end → AreTokens text from (ps ++ p ∷ []) end

abbrev pub IsNoEnd : Placed → Type 0
IsNoEnd p = is_end p.token ≡ false

-- the tokens of a clause: one end among them, the last
pub record IsClause (text : List ℕ) (from : ℕ) (ps : List Placed) (end : ℕ) : Type 0 where
  pub front : List Placed
  pub start : ℕ
  pub last : Placed
  pub before : AreTokens text from front start
  pub no_end_before : All IsNoEnd front
  pub last_at : IsTokenAt text start last end
  pub last_ends : is_end last.token ≡ true
  pub whole : ps ≡ front ++ last ∷ []

-- what stands at a place behind the layout that begins at another is neither layout nor a token
abbrev pub NoTokenFrom : List ℕ → ℕ → TokenFault → Type 0
NoTokenFrom text from (At a) = Gap text from a × (a < length text)
NoTokenFrom text from Memory = Unit {0}

-- tokens without an end, and then a byte at which nothing begins, or the text's end
pub record StopsAt (text : List ℕ) (from a : ℕ) : Type 0 where
  pub before : List Placed
  pub start : ℕ
  pub tokens : AreTokens text from before start
  pub no_end : All IsNoEnd before
  pub gap : Gap text start a
  pub high : a ≤ length text
  pub begun : a ≡ length text → before ≢ []

abbrev pub NoClauseFrom : List ℕ → ℕ → TokenFault → Type 0
NoClauseFrom text from (At a) = StopsAt text from a
NoClauseFrom text from Memory = Unit {0}

-- the last token, where there is one, is an end
abbrev pub ends_with_end : List Placed → Bool
ends_with_end ps = option_map_or (λ p. is_end p.token) (slice_get ps (length ps - 1)) false

-- the tokens without an end at their end
abbrev pub without_end : List Placed → List Placed
without_end ps = if ends_with_end ps then take (length ps - 1) ps else ps

-- the tokens of a whole text, without an end at their end
pub record AreQueryTokens (text : List ℕ) (ps : List Placed) : Type 0 where
  pub all : List Placed
  pub end : ℕ
  pub tokens : AreTokens text 0 all end
  pub gap : Gap text end (length text)
  pub whole : ps ≡ without_end all

-- tokens, and then a byte at which nothing begins
pub record BreaksOff (text : List ℕ) (a : ℕ) : Type 0 where
  pub before : List Placed
  pub start : ℕ
  pub tokens : AreTokens text 0 before start
  pub gap : Gap text start a
  pub high : a < length text

abbrev pub NoQueryTokens : List ℕ → TokenFault → Type 0
NoQueryTokens text (At a) = BreaksOff text a
NoQueryTokens text Memory = Unit {0}

abbrev pub total_weight : List Placed → ℕ
total_weight ps = sum_by (λ p. p.weight) ps
