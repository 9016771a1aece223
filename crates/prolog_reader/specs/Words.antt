-- What the words of a clause say by themselves.
use Rattle.std.specs.Prelude.{ℕ, ◌<◌, List, All, Bool, true, false, ◌||◌, Option, Some, None, is_some, is_none}
use Rattle.prolog_reader.specs.declared.symbol.Symbol.{Symbol}
use Rattle.prolog_reader.specs.declared.word.Word.{Word}
use Rattle.prolog_reader.specs.declared.word.Word.TheVariants as word

-- a term can begin with the word
abbrev pub begins_term : Word → Bool
begins_term (word.Name s) = is_none s.infix || is_some s.prefix
begins_term (word.Sign s) = true
begins_term (word.Functor s) = true
begins_term (word.Variable n) = true
begins_term (word.Integer n) = true
begins_term word.WideInteger = true
begins_term word.Open = true
begins_term word.Close = false
begins_term word.OpenList = true
begins_term word.CloseList = false
begins_term word.OpenCurly = true
begins_term word.CloseCurly = false
begins_term (word.Comma s) = false
begins_term word.Bar = false
begins_term word.End = false

-- a term can begin with the word behind, where there is one
abbrev pub next_begins : Option Word → Bool
next_begins None = false
next_begins (Some w) = begins_term w

-- the name that may stand as an infix operator behind an operand
abbrev pub infix_symbol : Word → Option Symbol
infix_symbol (word.Name s) = Some s
infix_symbol (word.Sign s) = Some s
infix_symbol (word.Functor s) = Some s
infix_symbol (word.Variable n) = None
infix_symbol (word.Integer n) = None
infix_symbol word.WideInteger = None
infix_symbol word.Open = None
infix_symbol word.Close = None
infix_symbol word.OpenList = None
infix_symbol word.CloseList = None
infix_symbol word.OpenCurly = None
infix_symbol word.CloseCurly = None
infix_symbol (word.Comma s) = Some s
infix_symbol word.Bar = None
infix_symbol word.End = None

-- a variable of the word has a number below n
abbrev pub IsBelow : ℕ → Word → Type 0
IsBelow n (word.Variable k) = k < n
IsBelow n (word.Name s) = Unit {0}
IsBelow n (word.Sign s) = Unit {0}
IsBelow n (word.Functor s) = Unit {0}
IsBelow n (word.Integer k) = Unit {0}
IsBelow n word.WideInteger = Unit {0}
IsBelow n word.Open = Unit {0}
IsBelow n word.Close = Unit {0}
IsBelow n word.OpenList = Unit {0}
IsBelow n word.CloseList = Unit {0}
IsBelow n word.OpenCurly = Unit {0}
IsBelow n word.CloseCurly = Unit {0}
IsBelow n (word.Comma s) = Unit {0}
IsBelow n word.Bar = Unit {0}
IsBelow n word.End = Unit {0}

abbrev pub AllBelow : ℕ → List Word → Type 0
AllBelow n ws = All (IsBelow n) ws
