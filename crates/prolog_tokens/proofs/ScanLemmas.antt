-- Facts about tokens in their places.
use Rattle.std.proofs.Common.{◌≡◌, ℕ, ◌-◌, ◌*◌, ◌≤◌, Bool, true, false, cond, List, [], ◌∷◌, ◌++◌, length, take, arith, length-append}
use Rattle.std.specs.Prelude.{All}
use Rattle.std.proofs.lemmas.List.Sums.{sum_by-append, sum_by-take-le}
use Rattle.std.proofs.lemmas.List.Elements.{All-push, All-take}
use Rattle.std.proofs.lemmas.List.{length-take}
use Rattle.prolog_tokens.specs.Scan.{IsTokenAt, AreTokens, total_weight, weight_of, ends_with_end, without_end}
use Rattle.prolog_tokens.specs.declared.placed.Placed.{Placed}
use Rattle.prolog_tokens.proofs.LayoutLemmas.{gap_low}

-- a token has the weight that it should have
abbrev pub IsWeighed : Placed → Type 0
IsWeighed p = p.weight ≡ weight_of p.token

-- what tokens one after another keep
pub record Spans (text : List ℕ) (from : ℕ) (ps : List Placed) (end : ℕ) : Type 0 where
  pub low : from ≤ end
  pub high : end ≤ length text
  pub weight : total_weight ps ≤ 3 * (end - from)
  pub count : length ps ≤ end - from
  pub weighed : All IsWeighed ps

pub spans_more : (text : List ℕ) (from at end : ℕ) (ps : List Placed) (p : Placed) → Spans text from ps at → IsTokenAt text at p end → Spans text from (ps ++ p ∷ []) end
spans_more text from at end ps p spans token =
    let low = gap_low p.at token.gap in
    record {
      low = omega (arith, spans.low, token.room);
      high = token.high;
      weight = omega (arith, sum_by-append (λ (q : Placed). q.weight) ps (p ∷ []), spans.weight, spans.low, token.light, token.room);
      count = omega (arith, length-append ps (p ∷ []), spans.count, spans.low, token.room);
      weighed = All-push IsWeighed ps p spans.weighed token.weight;
    }

pub spans : (text : List ℕ) (from : ℕ) (ps : List Placed) (end : ℕ) → from ≤ length text → AreTokens text from ps end → Spans text from ps end
spans text from _ _ high (AreTokens.none) = record { low = omega arith; high = high; weight = omega arith; count = omega arith; weighed = λ k d lt. absurd (omega arith) }
spans text from _ _ high (AreTokens.more ps at p end tokens token) =
    spans_more text from at end ps p (spans text from ps at high tokens) token

-- leaving out an end makes nothing greater
pub without_end-weight : (ps : List Placed) → total_weight (without_end ps) ≤ total_weight ps
without_end-weight ps =
    let case : (b : Bool) → total_weight (cond b (take (length ps - 1) ps) ps) ≤ total_weight ps =
    λ b. elim b as (λ v. total_weight (cond v (take (length ps - 1) ps) ps) ≤ total_weight ps) [
      | true ↦ sum_by-take-le (λ (q : Placed). q.weight) ps (length ps - 1)
      | false ↦ omega arith
    ] in
    case (ends_with_end ps)

pub length-without_end : (ps : List Placed) → length (without_end ps) ≤ length ps
length-without_end ps =
    let case : (b : Bool) → length (cond b (take (length ps - 1) ps) ps) ≤ length ps =
    λ b. elim b as (λ v. length (cond v (take (length ps - 1) ps) ps) ≤ length ps) [
      | true ↦ omega (arith, length-take (length ps - 1) ps)
      | false ↦ omega arith
    ] in
    case (ends_with_end ps)

pub weighed-without_end : (ps : List Placed) → All IsWeighed ps → All IsWeighed (without_end ps)
weighed-without_end ps all =
    let case : (b : Bool) → All IsWeighed (cond b (take (length ps - 1) ps) ps) =
    λ b. elim b as (λ v. All IsWeighed (cond v (take (length ps - 1) ps) ps)) [ true ↦ All-take IsWeighed (length ps - 1) ps all | false ↦ all ] in
    case (ends_with_end ps)
