-- Open brackets at the tokens of a clause.
use Rattle.std.specs.Prelude.{ℕ, ◌+◌, ◌-◌, ◌==◌, ◌||◌, Bool, false, if◌then◌else◌, nat_lt, List, [], ◌∷◌}
use Rattle.prolog_tokens.specs.declared.token.Token.{Token}
use Rattle.prolog_tokens.specs.declared.token.Token.TheVariants.{Name, Variable, Integer, WideInteger, Codes, Punct, End}
use Rattle.prolog_tokens.specs.declared.placed.Placed.{Placed}

-- how many brackets are open behind a byte of punctuation: one of `(`, `[`, `{` opens one, and one of `)`, `]`, `}` closes the newest one, or none where none is open
abbrev pub open_behind : ℕ → ℕ → ℕ
open_behind n b =
    if b == 40 || b == 91 || b == 123 then n + 1
    else (if b == 41 || b == 93 || b == 125 then n - 1 else n)

abbrev pub open_after : ℕ → Token → ℕ
open_after n (Punct b) = open_behind n b
open_after n (Name text quoted) = n
open_after n (Variable text) = n
open_after n (Integer k) = n
open_after n WideInteger = n
open_after n (Codes text) = n
open_after n End = n

-- more than 4,096 brackets are open at one of the tokens, where n are open before them
abbrev pub too_many_open : ℕ → List Placed → Bool
too_many_open n [] = false
too_many_open n (p ∷ ps) = nat_lt 4096 (open_after n p.token) || too_many_open (open_after n p.token) ps
