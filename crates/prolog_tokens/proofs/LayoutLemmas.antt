-- Facts about layout and comments.
use Rattle.std.proofs.Common.{◌≡◌, ◌↔◌, ℕ, ◌+◌, ◌-◌, ◌<◌, ◌≤◌, Bool, true, false, IsTrue, List, length, slice_index, slice_range, Option, Some, None, IfOk, IfSome, IfNone, sym, ap, ◌∙◌, subst, arith, ⊎_elim}
use Rattle.std.specs.Option.{ok_or}
use Rattle.std.specs.Bool.{then_some}
use Rattle.std.specs.Str.{IsUtf8}
use Rattle.std.proofs.str.Laws.{order}
use Rattle.prolog_tokens.specs.Layout.{IsLineEnd, IsBlockEnd, ClosesAt, IsLineComment, IsBlockComment, Gap, NoGap}
use Rattle.prolog_tokens.specs.Opening.{Step}
use Rattle.prolog_tokens.specs.declared.fault.TokenFault.{TokenFault}

-- a line stops at one place
pub IsLineEnd-unique : {text : List ℕ} {at : ℕ} (m n : ℕ) → IsLineEnd text at m → IsLineEnd text at n → m ≤ n
IsLineEnd-unique m n a b =
    ⊎_elim (λ below. absurd (a.no_new_line n b.low below (b.stops (omega (arith, a.high))))) (λ le. le) (order n m)

-- a block comment stops at one place
pub IsBlockEnd-unique : {text : List ℕ} {at : ℕ} (m n : ℕ) → IsBlockEnd text at m → IsBlockEnd text at n → m ≤ n
IsBlockEnd-unique {text} {at} m n a b =
    ⊎_elim
    (λ below. absurd (
    let e : n - 2 + 1 ≡ n - 1 = omega (arith, b.room) in
    let closes : ClosesAt text (n - 2) = (omega (arith, b.room, b.high), b.star, ap (slice_index text) e ∙ b.slash) in
    a.first (n - 2) (omega (arith, b.room)) (omega (arith, b.room)) closes))
    (λ le. le) (order n m)

pub line_step : (text : List ℕ) (at : ℕ) (e : TokenFault) (found : Option ℕ) → IfSome found (λ end. IsLineComment text at end) → IfOk (ok_or found e) (λ end. Step text at end)
line_step text at e None h = tt
line_step text at e (Some end) h = Step.line end h

pub block_step : (text : List ℕ) (at : ℕ) (e : TokenFault) (found : Option ℕ) → IfSome found (λ end. IsBlockComment text at end) → IfOk (ok_or found e) (λ end. Step text at end)
block_step text at e None h = tt
block_step text at e (Some end) h = Step.block end h

-- one more step of layout
pub gap_step : {text : List ℕ} {from : ℕ} (at end : ℕ) → Gap text from at → at < length text → Step text at end → Gap text from end
gap_step at _ gap lt (Step.blank is_blank) = Gap.blank at gap lt is_blank
gap_step at _ gap lt (Step.line end comment) = Gap.line at end gap comment
gap_step at _ gap lt (Step.block end comment) = Gap.block at end gap comment
gap_step at _ gap lt (Step.nothing none) = gap

-- a step stays within the text, and does not go back
pub step_high : {text : List ℕ} (at end : ℕ) → at < length text → Step text at end → end ≤ length text
step_high at _ lt (Step.blank is_blank) = omega arith
step_high at _ lt (Step.line end comment) = comment.line.high
step_high at _ lt (Step.block end comment) = comment.closes.high
step_high at _ lt (Step.nothing none) = omega arith

pub step_low : {text : List ℕ} (at end : ℕ) → Step text at end → at ≤ end
step_low at _ (Step.blank is_blank) = omega arith
step_low at _ (Step.line end comment) = comment.line.low
step_low at _ (Step.block end comment) = omega (arith, comment.closes.room)
step_low at _ (Step.nothing none) = omega arith

-- where a step goes nowhere, neither layout nor a comment begins
pub step_stops : {text : List ℕ} (at end : ℕ) → at < length text → Step text at end → end ≡ at → NoGap text at
step_stops at _ lt (Step.blank is_blank) e = absurd (omega arith)
step_stops {text} at _ lt (Step.line end comment) e =
    absurd (line_moves text at end comment e)
  where
    line_moves : (text : List ℕ) (at end : ℕ) → IsLineComment text at end → end ≡ at → ⊥
    line_moves text at end comment e =
        let percent = comment.percent in
        let begins = comment.begins in
        let stops : slice_index text at ≡ 10 = ap (slice_index text) (sym e) ∙ comment.line.stops (omega arith) in
        omega (arith, stops, percent)
step_stops at _ lt (Step.block end comment) e = absurd (omega (arith, comment.closes.room))
step_stops at _ lt (Step.nothing none) e = none

-- layout only goes on
pub gap_low : {text : List ℕ} {from : ℕ} (at : ℕ) → Gap text from at → from ≤ at
gap_low _ (Gap.start) = omega arith
gap_low _ (Gap.blank at gap lt b) = omega (arith, gap_low at gap)
gap_low _ (Gap.line at end gap comment) = omega (arith, gap_low at gap, comment.line.low)
gap_low _ (Gap.block at end gap comment) = omega (arith, gap_low at gap, comment.closes.room)

-- text that is no UTF-8 up to the one place where a comment may end is no comment
pub block_none : (text : List ℕ) (at end : ℕ) (b : Bool) → (IsTrue b ↔ IsUtf8 (slice_range text at end)) → IsBlockEnd text (at + 2) end → IfNone (then_some b end) ((other : ℕ) → IsBlockComment text at other → ⊥)
block_none text at end true utf8 closes = tt
block_none text at end false utf8 closes = λ other comment.
    let same : other ≡ end = omega (arith, IsBlockEnd-unique other end comment.closes closes, IsBlockEnd-unique end other closes comment.closes) in
    let bad : ⊥ = let t = utf8.1 (subst (λ (e : ℕ). IsUtf8 (slice_range text at e)) same comment.utf8) in cc in
    bad
