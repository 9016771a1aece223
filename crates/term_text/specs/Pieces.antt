-- A text in pieces: bytes, and places where a space stands if the bytes beside them ask for it.
use Rattle.std.specs.Prelude.{ℕ, ◌-◌, ◌==◌, Bool, false, ◌||◌, List, [], ◌∷◌, ◌++◌, Option, Some, None, length, map, fold, slice_get, if◌then◌else◌}
use Rattle.std.specs.Char.{is_ascii_digit}
use Rattle.term_text.specs.Spelling.{is_symbol}

-- what stands before the next byte
pub data Gap : Type 0 where
  -- nothing that asks for a space
  closed : Gap
  -- an infix operator, which is kept apart from a symbol character
  after_infix : Gap
  -- a prefix operator, which is kept apart from a symbol character, a digit and an opening bracket
  after_prefix : Gap

pub data Piece : Type 0 where
  byte : ℕ → Piece
  -- the end of a left operand, which is kept apart from an operator where it ends in a symbol character
  end_of_left : Piece
  -- the end of an operator
  gap : Gap → Piece

abbrev pub bytes : List ℕ → List Piece
bytes bs = map (λ b. byte b) bs

-- the bytes so far, and what stands before the next one
pub record Text : Type 0 where
  pub text : List ℕ
  pub at_end : Gap

abbrev pub wants_space : Gap → ℕ → Bool
wants_space closed b = false
wants_space after_infix b = is_symbol b
wants_space after_prefix b = is_symbol b || is_ascii_digit b || b == 40

abbrev is_symbol_at : Option ℕ → Bool
is_symbol_at None = false
is_symbol_at (Some b) = is_symbol b

-- the last byte is a symbol character
abbrev pub ends_in_symbol : List ℕ → Bool
ends_in_symbol bs = is_symbol_at (slice_get bs (length bs - 1))

abbrev pub put : Text → Piece → Text
put t (byte b) = record { text = t.text ++ (if wants_space t.at_end b then 32 ∷ b ∷ [] else b ∷ []); at_end = closed }
put t end_of_left = if ends_in_symbol t.text then record { text = t.text ++ 32 ∷ []; at_end = closed } else t
put t (gap g) = record { text = t.text; at_end = g }

-- the text with more pieces
abbrev pub put_all : Text → List Piece → Text
put_all t ps = fold put t ps

-- no text
abbrev pub blank : Text
blank = record { text = []; at_end = closed }

-- the bytes of pieces
abbrev pub rendered : List Piece → List ℕ
rendered ps = (put_all blank ps).text
