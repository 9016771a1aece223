-- The facts that are made ready for a goal.
use Rattle.std.specs.Prelude.{ℕ, ◌==◌, cond, List, [], ◌∷◌, ◌++◌}
use Rattle.std.specs.List.{list_any}
use Rattle.aq_term.specs.PlainOf.{plain}
use Rattle.aq_term.specs.declared.builtin.Builtin.{Builtin}
use Rattle.aq_term.specs.declared.builtin.Builtin.TheVariants as builtin
use Rattle.kernel_ir.specs.declared.kernel_goal.KernelGoal.{KernelGoal}
use Rattle.kernel_ir.specs.declared.kernel_goal.KernelGoal.TheVariants as goal
use Rattle.term_meaning.specs.Plain.{Plain, plains, variables, variables_of_all}
use Rattle.flow_equations.specs.Env.{Env, changed, all_changed}
use Rattle.flow_equations.specs.FactRules.{seen}

-- the variables of a goal from left to right, each as often as it occurs
abbrev pub goal_variables : KernelGoal → List ℕ
goal_variables (goal.Unify v t) = v ∷ variables (plain t)
goal_variables (goal.Call name ts) = variables_of_all (plains ts)
goal_variables (goal.Undefined name ts) = variables_of_all (plains ts)
goal_variables (goal.Builtin b ts) = variables_of_all (plains ts)
goal_variables goal.Cut = []
goal_variables (goal.CutTo v) = v ∷ []
goal_variables goal.Fail = []
goal_variables (goal.Catch guarded ts handler us) = variables_of_all (plains ts) ++ variables_of_all (plains us)
goal_variables (goal.Throw t) = variables (plain t)

-- each variable that occurs again further on is put into a cell
abbrev pub repeated_seen : Env → List ℕ → Env
repeated_seen env [] = env
repeated_seen env (first ∷ vs) = repeated_seen (cond (list_any (λ other. other == first) vs) (changed seen env first) env) vs

-- the arguments that a built-in looks at
abbrev pub stored : Builtin → List Plain → List Plain
stored builtin.Is [] = []
stored builtin.Is (t ∷ ts) = ts
stored b ts = ts

abbrev pub prepared : Env → KernelGoal → Env
prepared env (goal.Unify v t) = repeated_seen env (goal_variables (goal.Unify v t))
prepared env (goal.Call name ts) = repeated_seen env (goal_variables (goal.Call name ts))
prepared env (goal.Undefined name ts) = env
prepared env (goal.Builtin b ts) = all_changed seen env (variables_of_all (plains (stored b ts)))
prepared env goal.Cut = env
prepared env (goal.CutTo v) = env
prepared env goal.Fail = env
prepared env (goal.Catch guarded ts handler us) = all_changed seen env (goal_variables (goal.Catch guarded ts handler us))
prepared env (goal.Throw t) = env
