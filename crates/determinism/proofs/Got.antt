-- The items of a list with one more at the end.
use Rattle.std.proofs.Common.{◌≡◌, ℕ, zero, suc, ◌<◌, ◌≤◌, ◌⊎◌, inl, inr, ⊎_elim, List, [], ◌∷◌, ◌++◌, Option, None, Some, length, get_or, refl, sym, ap, ◌∙◌, arith}
use Rattle.std.specs.Prelude.{slice_get, unwrap_or, IfSome, MatchOption}
use Rattle.std.specs.Borrow.{Bor}
use Rattle.flow_equations.specs.declared.predicate_facts.PredicateFacts.{PredicateFacts}
use Rattle.determinism.specs.Plans.{facts_at}

pub same_some : {X : Type 0} (x y : X) → Some x ≡ Some y → x ≡ y
same_some x y e = ap (λ o. unwrap_or o x) e

-- it is one of those before, or the last
pub got_push : {X : Type 0} (xs : List X) (last x : X) (i : ℕ) → slice_get (xs ++ last ∷ []) i ≡ Some x
    → (slice_get xs i ≡ Some x) ⊎ ((i ≡ length xs) × (last ≡ x))
got_push [] last x zero e = inr (refl, same_some last x e)
got_push [] last x (suc i) e = absurd (let no : ⊥ = cc in no)
got_push (first ∷ xs) last x zero e = inl e
got_push (first ∷ xs) last x (suc i) e =
    ⊎_elim (λ before. inl before) (λ behind. inr (ap suc behind.0, behind.1)) (got_push xs last x i e)

pub got_in : {X : Type 0} (xs : List X) (i : ℕ) (x : X) → i < length xs → x ≡ get_or xs i x → slice_get xs i ≡ Some x
got_in [] i x h is = absurd (omega (arith, h))
got_in (first ∷ xs) zero x h is = ap Some (sym is)
got_in (first ∷ xs) (suc i) x h is = got_in xs i x (omega (arith, h)) is

got_past : {X : Type 0} (xs : List X) (i : ℕ) → length xs ≤ i → slice_get xs i ≡ None
got_past [] i h = refl
got_past (first ∷ xs) zero h = absurd (omega (arith, h))
got_past (first ∷ xs) (suc i) h = got_past xs i (omega (arith, h))

-- the facts that a look-up leads to
pub looked_up : (fs : List PredicateFacts) (i : ℕ) (found : Option (Bor PredicateFacts)) (P : Bor PredicateFacts → Type 0)
    → IfSome found (λ x. x.now ≡ get_or fs i x.now) → MatchOption found (length fs ≤ i) P → ((x : Bor PredicateFacts) → P x → i < length fs)
    → facts_at found ≡ slice_get fs i
looked_up fs i None P is past inside = sym (got_past fs i past)
looked_up fs i (Some known) P is there inside = sym (got_in fs i known.now (inside known there) is)
