-- The fault of a compound that is no control construct.
use Rattle.std.proofs.Common.{ℕ, ◌≡◌, ◌≢◌, ◌+◌, List, [], ◌∷◌, length, refl, ap, arith}
use Rattle.term_meaning.specs.Plain.{Plain, plains}
use Rattle.term_meaning.specs.Plain.{compound}
use Rattle.std.proofs.Common.{Some}
use Rattle.source_program.specs.ClauseFaults.{count, compound_fault, goal_fault, clause_fault_of, head_fault, form_fault_of, entry_fault}
use Rattle.aq_base.specs.declared.refusal.FormKind.TheVariants as form
use Rattle.source_program.specs.Keys.{clause_key_of, defined_key_of, entry_key_of}
use Rattle.std.proofs.Common.{None}
use Rattle.std.proofs.Common.{Bool, true, false, cond}
use Rattle.source_program.specs.Defined.{is_builtin}
use Rattle.source_program.specs.Arguments.{called, most_called_of, clause_arguments_of, text_arguments_of}

pub count_of_plains : (ts : List Plain) → count (plains ts) ≡ length ts
count_of_plains [] = refl
count_of_plains (t ∷ ts) = omega (arith, count_of_plains ts)

pub fault_of_others : (n : ℕ) (ts : List Plain) → length ts ≢ 1 → length ts ≢ 2 → length ts ≢ 3 →
    compound_fault n (plains ts) ≡ goal_fault n (length ts)
fault_of_others n [] h k l = refl
fault_of_others n (a ∷ []) h k l = absurd (h refl)
fault_of_others n (a ∷ b ∷ []) h k l = absurd (k refl)
fault_of_others n (a ∷ b ∷ c ∷ []) h k l = absurd (l refl)
fault_of_others n (a ∷ b ∷ c ∷ d ∷ ts) h k l =
    let e : count (plains ts) + 4 ≡ length (a ∷ b ∷ c ∷ d ∷ ts) = omega (arith, count_of_plains ts) in
    ap (goal_fault n) e

-- a compound of one or more than two arguments is a fact
pub clause_fault_of_others : (n : ℕ) (ts : List Plain) → length ts ≢ 2 → clause_fault_of n (plains ts) ≡ head_fault (compound n (plains ts))
clause_fault_of_others n [] h = refl
clause_fault_of_others n (a ∷ []) h = refl
clause_fault_of_others n (a ∷ b ∷ []) h = absurd (h refl)
clause_fault_of_others n (a ∷ b ∷ c ∷ ts) h = refl

pub clause_key_of_others : (n : ℕ) (ts : List Plain) → length ts ≢ 2 → clause_key_of n (plains ts) ≡ Some (n, count (plains ts))
clause_key_of_others n [] h = refl
clause_key_of_others n (a ∷ []) h = refl
clause_key_of_others n (a ∷ b ∷ []) h = absurd (h refl)
clause_key_of_others n (a ∷ b ∷ c ∷ ts) h =
    let e : count (plains ts) + 3 ≡ count (plains (a ∷ b ∷ c ∷ ts)) = omega arith in
    ap (λ (k : ℕ). Some (n, k)) e

-- a compound of neither one nor two arguments is neither a directive nor a grammar rule
pub form_fault_of_others : (variables n : ℕ) (ts : List Plain) → length ts ≢ 1 → length ts ≢ 2 →
    form_fault_of variables n (plains ts) ≡ clause_fault_of n (plains ts)
form_fault_of_others variables n [] h k = refl
form_fault_of_others variables n (a ∷ []) h k = absurd (h refl)
form_fault_of_others variables n (a ∷ b ∷ []) h k = absurd (k refl)
form_fault_of_others variables n (a ∷ b ∷ c ∷ ts) h k = refl

pub defined_key_of_others : (variables n : ℕ) (ts : List Plain) → length ts ≢ 1 → length ts ≢ 2 →
    defined_key_of variables n (plains ts) ≡ clause_key_of n (plains ts)
defined_key_of_others variables n [] h k = refl
defined_key_of_others variables n (a ∷ []) h k = absurd (h refl)
defined_key_of_others variables n (a ∷ b ∷ []) h k = absurd (k refl)
defined_key_of_others variables n (a ∷ b ∷ c ∷ ts) h k = refl

pub entry_key_of_others : (n : ℕ) (ts : List Plain) → length ts ≢ 1 → entry_key_of n (plains ts) ≡ None
entry_key_of_others n [] h = refl
entry_key_of_others n (a ∷ []) h = absurd (h refl)
entry_key_of_others n (a ∷ b ∷ ts) h = refl

-- a directive has one argument
pub entry_fault_of_others : (n : ℕ) (ts : List Plain) → length ts ≢ 1 → entry_fault n (plains ts) ≡ Some form.Directive
entry_fault_of_others n [] h = refl
entry_fault_of_others n (a ∷ []) h = absurd (h refl)
entry_fault_of_others n (a ∷ b ∷ ts) h = refl

none_called : (n : ℕ) → 0 ≡ called n 0
none_called n =
    let none : ℕ = 0 in
    let case : (b : Bool) → none ≡ cond b none none =
    λ b. elim b as (λ v. none ≡ cond v none none) [ true ↦ refl | false ↦ refl ] in
    case (is_builtin n 0)

pub called_of_others : (n : ℕ) (ts : List Plain) → length ts ≢ 1 → length ts ≢ 2 → length ts ≢ 3 →
    most_called_of n (plains ts) ≡ called n (length ts)
called_of_others n [] h k l = none_called n
called_of_others n (a ∷ []) h k l = absurd (h refl)
called_of_others n (a ∷ b ∷ []) h k l = absurd (k refl)
called_of_others n (a ∷ b ∷ c ∷ []) h k l = absurd (l refl)
called_of_others n (a ∷ b ∷ c ∷ d ∷ ts) h k l =
    let e : count (plains ts) + 4 ≡ length (a ∷ b ∷ c ∷ d ∷ ts) = omega (arith, count_of_plains ts) in
    ap (called n) e

-- a compound of one or more than two arguments is a fact
pub clause_arguments_of_others : (n : ℕ) (ts : List Plain) → length ts ≢ 2 → clause_arguments_of n (plains ts) ≡ count (plains ts)
clause_arguments_of_others n [] h = refl
clause_arguments_of_others n (a ∷ []) h = refl
clause_arguments_of_others n (a ∷ b ∷ []) h = absurd (h refl)
clause_arguments_of_others n (a ∷ b ∷ c ∷ ts) h = omega arith

pub text_arguments_of_others : (variables n : ℕ) (ts : List Plain) → length ts ≢ 2 →
    text_arguments_of variables n (plains ts) ≡ clause_arguments_of n (plains ts)
text_arguments_of_others variables n [] h = refl
text_arguments_of_others variables n (a ∷ []) h = refl
text_arguments_of_others variables n (a ∷ b ∷ []) h = absurd (h refl)
text_arguments_of_others variables n (a ∷ b ∷ c ∷ ts) h = refl
