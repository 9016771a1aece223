-- Kernel clauses whose goals name variables of the clause alone.
use Rattle.std.specs.Prelude.{ℕ, ◌<◌, List, All, ⊤}
use Rattle.term_meaning.specs.Plain.{Plain, variables}
use Rattle.aq_term.specs.PlainOf.{plain}
use Rattle.kernel_ir.specs.declared.kernel_clause.KernelClause.{KernelClause}
use Rattle.kernel_ir.specs.declared.kernel_goal.KernelGoal.{KernelGoal}
use Rattle.kernel_ir.specs.declared.kernel_goal.KernelGoal.TheVariants as goal
use Rattle.kernel_ir.specs.declared.kernel_predicate.KernelPredicate.{KernelPredicate}

-- each variable of the term is below the number
pub record IsTermBelow (n : ℕ) (t : Plain) : Type 0 where
  pub below : All (λ v. v < n) (variables t)

-- each variable of the terms is below the number
pub record AreTermsBelow (n : ℕ) (ts : List Plain) : Type 0 where
  pub below : All (IsTermBelow n) ts

-- each variable that the goal names is below the number
abbrev pub IsGoalBelow : ℕ → KernelGoal → Type 0
IsGoalBelow n (goal.Unify v t) = (v < n) × IsTermBelow n (plain t)
IsGoalBelow n (goal.Call name ts) = AreTermsBelow n ts
IsGoalBelow n (goal.Undefined name ts) = AreTermsBelow n ts
IsGoalBelow n (goal.Builtin b ts) = AreTermsBelow n ts
IsGoalBelow n goal.Cut = ⊤
IsGoalBelow n (goal.CutTo v) = v < n
IsGoalBelow n goal.Fail = ⊤
IsGoalBelow n (goal.Catch guarded ts handler us) = AreTermsBelow n ts × AreTermsBelow n us
IsGoalBelow n (goal.Throw t) = IsTermBelow n (plain t)

-- each variable that a goal of the clause names is one of the clause
abbrev pub IsOwnClause : KernelClause → Type 0
IsOwnClause c = All (IsGoalBelow c.variables) c.goals

-- of each clause of the predicate
abbrev pub HasOwnVariables : KernelPredicate → Type 0
HasOwnVariables p = All IsOwnClause p.clauses
