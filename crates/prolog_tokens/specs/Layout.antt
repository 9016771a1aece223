-- Layout and comments: what may stand between tokens.
use Rattle.std.specs.Prelude.{◌≡◌, ◌≢◌, ℕ, ◌+◌, ◌-◌, ◌<◌, ◌≤◌, ◌==◌, ◌||◌, ◌⊎◌, Bool, IsTrue, List, length, slice_index, slice_range}
use Rattle.std.specs.Str.{IsUtf8}

-- space, tab, new line, carriage return, form feed, vertical tab
abbrev pub is_blank : ℕ → Bool
is_blank b = b == 32 || b == 9 || b == 10 || b == 13 || b == 12 || b == 11

-- the line that has begun before at stops at end
pub record IsLineEnd (text : List ℕ) (at end : ℕ) : Type 0 where
  pub low : at ≤ end
  pub high : end ≤ length text
  pub no_new_line : (k : ℕ) → at ≤ k → k < end → slice_index text k ≢ 10
  pub stops : end < length text → slice_index text end ≡ 10

-- `*/` stands at k
abbrev pub ClosesAt : List ℕ → ℕ → Type 0
ClosesAt text k = (k + 1 < length text) × (slice_index text k ≡ 42) × (slice_index text (k + 1) ≡ 47)

-- the first `*/` from at on stands right before end
pub record IsBlockEnd (text : List ℕ) (at end : ℕ) : Type 0 where
  pub room : at + 2 ≤ end
  pub high : end ≤ length text
  pub star : slice_index text (end - 2) ≡ 42
  pub slash : slice_index text (end - 1) ≡ 47
  pub first : (k : ℕ) → at ≤ k → k + 2 < end → ClosesAt text k → ⊥

-- a comment that goes to the end of its line
pub record IsLineComment (text : List ℕ) (at end : ℕ) : Type 0 where
  pub begins : at < length text
  pub percent : slice_index text at ≡ 37
  pub line : IsLineEnd text at end
  pub utf8 : IsUtf8 (slice_range text at end)

-- `/*` stands at a place
pub record OpensBlock (text : List ℕ) (at : ℕ) : Type 0 where
  pub begins : at + 1 < length text
  pub slash : slice_index text at ≡ 47
  pub star : slice_index text (at + 1) ≡ 42

-- a comment from `/*` to the next `*/`
pub record IsBlockComment (text : List ℕ) (at end : ℕ) : Type 0 where
  pub opens : OpensBlock text at
  pub closes : IsBlockEnd text (at + 2) end
  pub utf8 : IsUtf8 (slice_range text at end)

-- layout and comments lead from one place to another
pub data Gap (text : List ℕ) (from : ℕ) : ℕ → Type 0 where
  start : Gap text from from
  blank : (at : ℕ) → Gap text from at → at < length text → IsTrue (is_blank (slice_index text at)) → Gap text from (at + 1)
  line : (at end : ℕ) → Gap text from at → IsLineComment text at end → Gap text from end
  block : (at end : ℕ) → Gap text from at → IsBlockComment text at end → Gap text from end

-- no layout and no comment begins at a place
pub record NoGap (text : List ℕ) (at : ℕ) : Type 0 where
  pub no_blank : at < length text → IsTrue (is_blank (slice_index text at)) → ⊥
  pub no_percent : at < length text → slice_index text at ≢ 37
  pub no_block : OpensBlock text at → ⊥

-- what stands at a place begins as a comment and is none: it is never closed, or it isn't UTF-8
pub record IsBrokenComment (text : List ℕ) (at : ℕ) : Type 0 where
  pub begins : at < length text
  pub opens : (slice_index text at ≡ 37) ⊎ OpensBlock text at
  pub no_line : (end : ℕ) → IsLineComment text at end → ⊥
  pub no_block : (end : ℕ) → IsBlockComment text at end → ⊥
