-- What the functions on layout say of a place.
use Rattle.std.specs.Prelude.{◌≡◌, ℕ, ◌+◌, List, slice_index, IsTrue}
use Rattle.prolog_tokens.specs.Layout.{is_blank, IsLineComment, IsBlockComment, OpensBlock, NoGap, Gap, IsBrokenComment}
use Rattle.prolog_tokens.specs.declared.layout.Opening.{Opening}
use Rattle.prolog_tokens.specs.declared.layout.Opening.TheVariants.{Blank, LineComment, BlockComment, Other}
use Rattle.prolog_tokens.specs.declared.fault.TokenFault.{TokenFault}
use Rattle.prolog_tokens.specs.declared.fault.TokenFault.TheVariants.{At, Memory}

abbrev pub Opens : List ℕ → ℕ → Opening → Type 0
Opens text at Blank = IsTrue (is_blank (slice_index text at))
Opens text at LineComment = slice_index text at ≡ 37
Opens text at BlockComment = OpensBlock text at
Opens text at Other = NoGap text at

-- one byte of layout, one comment, or nothing, and then neither of them begins here
pub data Step (text : List ℕ) (at : ℕ) : ℕ → Type 0 where
  blank : IsTrue (is_blank (slice_index text at)) → Step text at (at + 1)
  line : (end : ℕ) → IsLineComment text at end → Step text at end
  block : (end : ℕ) → IsBlockComment text at end → Step text at end
  nothing : NoGap text at → Step text at at

-- the fault is at a comment that is broken
abbrev pub BreaksAt : List ℕ → ℕ → TokenFault → Type 0
BreaksAt text at (At a) = (a ≡ at) × IsBrokenComment text at
BreaksAt text at Memory = ⊥

-- layout and comments lead from one place to a broken comment
abbrev pub BreaksFrom : List ℕ → ℕ → TokenFault → Type 0
BreaksFrom text from (At a) = Gap text from a × IsBrokenComment text a
BreaksFrom text from Memory = ⊥
