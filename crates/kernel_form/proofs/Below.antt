-- Goals and terms whose variables are below a number.
use Rattle.std.proofs.Common.{ℕ, ◌<◌, ◌≤◌, List, [], ◌∷◌, ◌++◌, Option, Some, None, map, arith}
use Rattle.std.specs.List.{All}
use Rattle.std.specs.Option.{IfSome}
use Rattle.std.proofs.lemmas.List.{map-append}
use Rattle.std.proofs.lemmas.List.Elements.{All-nil, All-cons, All-head, All-tail, All-append, All-push, All-weaker}
use Rattle.term_meaning.specs.Plain.{Plain, variable, compound, variables, variables_of_all, plains}
use Rattle.aq_term.specs.PlainOf.{plain}
use Rattle.aq_term.specs.declared.term.Term.{Term}
use Rattle.kernel_ir.specs.declared.kernel_goal.KernelGoal.{KernelGoal}
use Rattle.kernel_ir.specs.declared.kernel_goal.KernelGoal.TheVariants as goal
use Rattle.kernel_form.specs.Own.{IsTermBelow, AreTermsBelow, IsGoalBelow}

-- a variable
pub variable_below : (n v : ℕ) → v < n → IsTermBelow n (variable v)
variable_below n v h =
    record { below = All-cons (λ u. u < n) v [] h (All-nil (λ u. u < n)) }

-- the variables of terms that are below a number, one after another
pub row_below : (n : ℕ) (ts : List Plain) → All (IsTermBelow n) ts → All (λ v. v < n) (variables_of_all (plains ts))
row_below n [] h = All-nil (λ v. v < n)
row_below n (t ∷ ts) h =
    let first = All-head (IsTermBelow n) t ts h in
    All-append (λ v. v < n) (variables t) (variables_of_all (plains ts)) first.below (row_below n ts (All-tail (IsTermBelow n) t ts h))

-- a compound of such terms
pub compound_below : (n name : ℕ) (ts : List Plain) → AreTermsBelow n ts → IsTermBelow n (compound name (plains ts))
compound_below n name ts h = record { below = row_below n ts h.below }

-- what is below a number is below a greater one
pub term_below_more : (n m : ℕ) (t : Plain) → n ≤ m → IsTermBelow n t → IsTermBelow m t
term_below_more n m t le h =
    let wider : (v : ℕ) → v < n → v < m = λ v below. omega arith in
    record { below = All-weaker (λ v. v < n) (λ v. v < m) wider (variables t) h.below }

pub terms_below_more : (n m : ℕ) (ts : List Plain) → n ≤ m → AreTermsBelow n ts → AreTermsBelow m ts
terms_below_more n m ts le h =
    record { below = All-weaker (IsTermBelow n) (IsTermBelow m) (λ t. term_below_more n m t le) ts h.below }

pub goal_below_more : (n m : ℕ) (g : KernelGoal) → n ≤ m → IsGoalBelow n g → IsGoalBelow m g
goal_below_more n m (goal.Unify v t) le h = (omega (arith, h.0), term_below_more n m (plain t) le h.1)
goal_below_more n m (goal.Call name ts) le h = terms_below_more n m ts le h
goal_below_more n m (goal.Undefined name ts) le h = terms_below_more n m ts le h
goal_below_more n m (goal.Builtin b ts) le h = terms_below_more n m ts le h
goal_below_more n m goal.Cut le h = h
goal_below_more n m (goal.CutTo v) le h = omega arith
goal_below_more n m goal.Fail le h = h
goal_below_more n m (goal.Catch guarded ts handler us) le h =
    (terms_below_more n m ts le h.0, terms_below_more n m us le h.1)
goal_below_more n m (goal.Throw t) le h = term_below_more n m (plain t) le h

pub goals_below_more : (n m : ℕ) (gs : List KernelGoal) → n ≤ m → All (IsGoalBelow n) gs → All (IsGoalBelow m) gs
goals_below_more n m gs le h = All-weaker (IsGoalBelow n) (IsGoalBelow m) (λ g. goal_below_more n m g le) gs h

-- a barrier variable, where there is one
pub barrier_below_more : (n m : ℕ) (barrier : Option ℕ) → n ≤ m → IfSome barrier (λ own. own < n) → IfSome barrier (λ own. own < m)
barrier_below_more n m None le h = h
barrier_below_more n m (Some own) le h = omega arith

-- no terms
pub none_below : (n : ℕ) → AreTermsBelow n []
none_below n = record { below = All-nil (IsTermBelow n) }

-- a term more, after which the number is greater
pub terms_below_push : (n m : ℕ) (ts : List Term) (t : Term) → n ≤ m → AreTermsBelow n (map plain ts) → IsTermBelow m (plain t) →
    AreTermsBelow m (map plain (ts ++ t ∷ []))
terms_below_push n m ts t le h one =
    let before = terms_below_more n m (map plain ts) le h in
    rw map-append (record { below = All-push (IsTermBelow m) (map plain ts) (plain t) before.below one })

-- a goal more, after which the number is greater
pub goals_below_push : (n m : ℕ) (gs : List KernelGoal) (g : KernelGoal) → n ≤ m → All (IsGoalBelow n) gs → IsGoalBelow m g →
    All (IsGoalBelow m) (gs ++ g ∷ [])
goals_below_push n m gs g le h one = All-push (IsGoalBelow m) gs g (goals_below_more n m gs le h) one
