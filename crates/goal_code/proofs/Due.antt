-- The signatures that are due, one predicate more.
use Rattle.std.proofs.Common.{◌≡◌, ℕ, zero, suc, ◌<◌, ◌≤◌, List, [], ◌∷◌, ◌++◌, Option, None, Some, length, get_or, drop, refl, sym, ap, subst, ◌∙◌, arith}
use Rattle.std.specs.Prelude.{slice_get, unwrap_or, IfSome, MatchOption}
use Rattle.std.specs.Borrow.{Bor}
use Rattle.std.specs.List.{All}
use Rattle.std.proofs.lemmas.List.Elements.{All-append}
use Rattle.bam_code.specs.declared.procedure.Proc.{Proc}
use Rattle.determinism.specs.declared.predicate_plan.Plan.{Plan}
use Rattle.flow_equations.specs.declared.predicate_facts.PredicateFacts.{PredicateFacts}
use Rattle.goal_code.specs.Planned.{IsPlanned}
use Rattle.goal_code.specs.Procedures.{IsProcedure, IsProcedureOf, MoreProcs}
use Rattle.goal_code.specs.Signatures.{led_to, signature_at, signatures_due}
use Rattle.goal_code.specs.declared.procedure.Planned.{Planned}
use Rattle.kernel_ir.specs.declared.kernel_predicate.KernelPredicate.{KernelPredicate}

same_some : {X : Type 0} (x y : X) → Some x ≡ Some y → x ≡ y
same_some x y e = ap (λ o. unwrap_or o x) e

-- an item is what a look-up at its place finds
pub got_in : {X : Type 0} (xs : List X) (i : ℕ) (x : X) → i < length xs → x ≡ get_or xs i x → slice_get xs i ≡ Some x
got_in [] i x h is = absurd (omega (arith, h))
got_in (first ∷ xs) zero x h is = ap Some (sym is)
got_in (first ∷ xs) (suc i) x h is = got_in xs i x (omega (arith, h)) is

got_past : {X : Type 0} (xs : List X) (i : ℕ) → length xs ≤ i → slice_get xs i ≡ None
got_past [] i h = refl
got_past (first ∷ xs) zero h = absurd (omega (arith, h))
got_past (first ∷ xs) (suc i) h = got_past xs i (omega (arith, h))

-- what a look-up leads to
pub looked_up : {X : Type 0} (xs : List X) (i : ℕ) (found : Option (Bor X)) (P : Bor X → Type 0) → IfSome found (λ x. x.now ≡ get_or xs i x.now)
    → MatchOption found (length xs ≤ i) P → ((x : Bor X) → P x → i < length xs) → led_to found ≡ slice_get xs i
looked_up xs i None P is past inside = sym (got_past xs i past)
looked_up xs i (Some known) P is there inside = sym (got_in xs i known.now (inside known there) is)

no_facts : (ps : List KernelPredicate) (os : List (List ℕ)) → signatures_due ps [] os ≡ []
no_facts [] os = refl
no_facts (p ∷ ps) os = refl

no_results : (ps : List KernelPredicate) (fs : List PredicateFacts) → signatures_due ps fs [] ≡ []
no_results [] fs = refl
no_results (p ∷ ps) [] = refl
no_results (p ∷ ps) (f ∷ fs) = refl

none_at : (p : KernelPredicate) (f : Option PredicateFacts) → signature_at p f None ≡ []
none_at p None = refl
none_at p (Some f) = refl

-- that of the predicate at a place, and those behind
pub due_step : (ps : List KernelPredicate) (fs : List PredicateFacts) (os : List (List ℕ)) (i : ℕ) (p : KernelPredicate) → slice_get ps i ≡ Some p
    → signatures_due (drop i ps) (drop i fs) (drop i os) ≡ signature_at p (slice_get fs i) (slice_get os i) ++ signatures_due (drop (suc i) ps) (drop (suc i) fs) (drop (suc i) os)
due_step [] fs os i p at = absurd (let no : ⊥ = cc in no)
due_step (q ∷ ps) [] [] zero p at = sym (no_facts ps [])
due_step (q ∷ ps) [] (o ∷ os) zero p at = sym (no_facts ps os)
due_step (q ∷ ps) (f ∷ fs) [] zero p at = sym (no_results ps fs)
due_step (q ∷ ps) (f ∷ fs) (o ∷ os) zero p at =
    let P : KernelPredicate → Type 0 = λ r. signature_at q (Some f) (Some o) ++ signatures_due ps fs os ≡ signature_at r (Some f) (Some o) ++ signatures_due ps fs os in
    subst P (same_some q p at) refl
due_step (q ∷ ps) [] os (suc i) p at = no_facts (drop i ps) (drop (suc i) os) ∙ sym (no_facts (drop (suc i) ps) (drop (suc (suc i)) os))
due_step (q ∷ ps) (f ∷ fs) [] (suc i) p at =
    no_results (drop i ps) (drop i fs)
    ∙ sym (ap (λ l. l ++ signatures_due (drop (suc i) ps) (drop (suc i) fs) []) (none_at p (slice_get fs i)) ∙ no_results (drop (suc i) ps) (drop (suc i) fs))
due_step (q ∷ ps) (f ∷ fs) (o ∷ os) (suc i) p at = due_step ps fs os i p at

all_one : {X : Type 0} (P : X → Type 0) (x : X) → P x → All P (x ∷ [])
all_one P x p zero d h = p
all_one P x p (suc k) d h = absurd (omega (arith, h))

-- the procedures so far, and one more where the predicate at this place is reached
pub more_procs : (ps : List KernelPredicate) (fs : List PredicateFacts) (plans : List Plan) (i : ℕ) (planned : Option Planned) (p : KernelPredicate) (plan : Plan)
    → (found : Option PredicateFacts) (old new : List Proc) → All (IsProcedure ps fs plans) old → slice_get ps i ≡ Some p → slice_get plans i ≡ Some plan
    → found ≡ slice_get fs i → IfSome planned (IsPlanned p found plan) → MoreProcs planned old new → All (IsProcedure ps fs plans) new
more_procs ps fs plans i None p plan found old new all p_is plan_is own_is is more = subst (All (IsProcedure ps fs plans)) (sym more) all
more_procs ps fs plans i (Some planned) p plan found old new all p_is plan_is own_is is more =
    let own : PredicateFacts = planned.own.now in
    let of_plan : IsProcedureOf planned.predicate.now own plan more.0 =
    subst (λ q. IsProcedureOf planned.predicate.now own q more.0) is.plan_is more.2 in
    let made : IsProcedureOf p own plan more.0 = subst (λ q. IsProcedureOf q own plan more.0) is.predicate_is of_plan in
    let last : IsProcedure ps fs plans more.0 = record {
      place = i;
      predicate = p;
      own = own;
      plan = plan;
      predicate_is = p_is;
      own_is = sym own_is ∙ is.own_is;
      plan_is = plan_is;
      reached = is.reached;
      made = made;
    } in
    subst (All (IsProcedure ps fs plans)) (sym more.1) (All-append (IsProcedure ps fs plans) old (more.0 ∷ []) all (all_one (IsProcedure ps fs plans) more.0 last))
