-- What a whole token is, by its shape.
use Rattle.std.specs.Prelude.{ℕ, ◌==◌, ◌||◌, Bool, false, List, [], ◌∷◌, Option, Some, None}
use Rattle.prolog_tokens.specs.declared.digits.Radix.TheVariants as radix
use Rattle.prolog_tokens.specs.declared.shape.Quote.{Quote}
use Rattle.prolog_tokens.specs.declared.shape.Quote.TheVariants as quote
use Rattle.prolog_tokens.specs.declared.shape.Kind.{Kind}
use Rattle.prolog_tokens.specs.declared.shape.Kind.TheVariants as kind
use Rattle.prolog_tokens.specs.declared.shape.Shape.{Shape}
use Rattle.prolog_tokens.specs.declared.shape.Shape.TheVariants as shape

abbrev pub byte_of : Quote → ℕ
byte_of quote.Single = 39
byte_of quote.Double = 34

abbrev is_one_of : List ℕ → ℕ → Bool
is_one_of [] n = false
is_one_of (m ∷ ms) n = n == m || is_one_of ms n

-- + - * / \ ^ < > = ~ : . ? @ # & $
abbrev pub is_symbol : ℕ → Bool
is_symbol = is_one_of (43 ∷ 45 ∷ 42 ∷ 47 ∷ 92 ∷ 94 ∷ 60 ∷ 62 ∷ 61 ∷ 126 ∷ 58 ∷ 46 ∷ 63 ∷ 64 ∷ 35 ∷ 38 ∷ 36 ∷ [])

abbrev quoted_kind : Quote → Kind
quoted_kind quote.Single = kind.QuotedName
quoted_kind quote.Double = kind.Codes

abbrev pub kind_of : Shape → Option Kind
kind_of shape.Start = None
kind_of shape.Name = Some kind.Name
kind_of shape.Variable = Some kind.Variable
kind_of shape.Symbols = Some kind.Name
kind_of shape.Solo = Some kind.Name
kind_of shape.Punctuation = Some kind.Punctuation
kind_of shape.Zero = Some (kind.Integer radix.Decimal)
kind_of (shape.Base r) = None
kind_of (shape.Digits r) = Some (kind.Integer r)
kind_of shape.CharacterMark = None
kind_of shape.CharacterQuote = None
kind_of (shape.CharacterPart piece) = None
kind_of shape.Character = Some kind.Character
kind_of (shape.Quoted q piece) = None
kind_of (shape.Closed q) = Some (quoted_kind q)
