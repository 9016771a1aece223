-- What the grammar says of compounds that are no operator's.
use Rattle.std.proofs.Common.{ℕ, ◌≡◌, ◌≢◌, List, [], ◌∷◌, ◌++◌, length, map, ap, ◌∙◌, None, Some, Result, Ok, Err, IfOk, refl, arith}
use Rattle.term_meaning.specs.Plain.{Plain, plains, compound, more}
use Rattle.aq_term.specs.PlainOf.{plain}
use Rattle.aq_term.specs.declared.term.Term.{Term}
use Rattle.aq_term.specs.declared.term.Term.TheVariants as term
use Rattle.dcg_rules.specs.declared.fault.DcgFault.{DcgFault}
use Rattle.dcg_rules.specs.Grammar.{IsRule, with_ends, with_lists, goal_of_compound, made, nonterminal, count}

pub with_ends_of_others : (to name : ℕ) (ts : List Plain) → length ts ≢ 2 → with_ends to name (plains ts) ≡ None
with_ends_of_others to name [] h = refl
with_ends_of_others to name (a ∷ []) h = refl
with_ends_of_others to name (a ∷ b ∷ []) h = absurd (h refl)
with_ends_of_others to name (a ∷ b ∷ c ∷ ts) h = refl

pub goal_of_others : (name : ℕ) (ts : List Plain) (from to next : ℕ) → length ts ≢ 1 → length ts ≢ 2 →
    goal_of_compound name (plains ts) from to next ≡ made next (nonterminal name (plains ts) from to)
goal_of_others name [] from to next h k = refl
goal_of_others name (a ∷ []) from to next h k = absurd (h refl)
goal_of_others name (a ∷ b ∷ []) from to next h k = absurd (k refl)
goal_of_others name (a ∷ b ∷ c ∷ ts) from to next h k = refl

pub count_of_plains : (ts : List Plain) → count (plains ts) ≡ length ts
count_of_plains [] = refl
count_of_plains (t ∷ ts) = omega (arith, count_of_plains ts)

appended : (ts : List Term) (from to : ℕ) →
    plains (map plain ((ts ++ term.Var from ∷ []) ++ term.Var to ∷ [])) ≡ with_lists (plains (map plain ts)) from to
appended [] from to = refl
appended (t ∷ ts) from to = ap (more (plain t)) (appended ts from to)

-- two variables put behind some terms are the two lists of a nonterminal
pub with_lists_of_items : (name : ℕ) (ts : List Term) (from to : ℕ) →
    compound name (plains (map plain ((ts ++ term.Var from ∷ []) ++ term.Var to ∷ [])))
    ≡ compound name (with_lists (plains (map plain ts)) from to)
with_lists_of_items name ts from to = ap (compound name) (appended ts from to)

-- what holds of a nonterminal holds of the goal
pub goal_of_made : (r : Result Term DcgFault) (name : ℕ) (ts : List Plain) (from to next : ℕ) →
    length ts ≢ 1 → length ts ≢ 2 → IfOk r (λ t. nonterminal name (plains ts) from to ≡ Some (plain t)) →
    IfOk r (λ t. goal_of_compound name (plains ts) from to next ≡ Some (plain t, next))
goal_of_made (Ok t) name ts from to next h k e = goal_of_others name ts from to next h k ∙ ap (made next) e
goal_of_made (Err f) name ts from to next h k e = tt

-- a rule has two sides
pub other_than_rule : (name : ℕ) (ts : List Plain) (head body : Plain) → length ts ≢ 2 →
    IsRule head body (compound name (plains ts)) → ⊥
other_than_rule name [] head body h e = cc
other_than_rule name (a ∷ []) head body h e = cc
other_than_rule name (a ∷ b ∷ []) head body h e = h refl
other_than_rule name (a ∷ b ∷ c ∷ ts) head body h e = cc
