-- The facts of a clause's variables, by number.
use Rattle.std.specs.Prelude.{ℕ, List, fold, get_or, slice_set}
use Rattle.type_lattice.specs.declared.fact.Fact.{Fact}
use Rattle.type_lattice.specs.declared.fact.Fact.TheVariants as fact

abbrev pub Env : Type 0
Env = List Fact

-- the fact of a variable; a number without a variable has any
abbrev pub fact_of : Env → ℕ → Fact
fact_of env variable = get_or env variable fact.Any

-- the fact of one variable by a rule, the others as they were
abbrev pub changed : (Fact → Fact) → Env → ℕ → Env
changed rule env variable = slice_set env variable (rule (fact_of env variable))

-- of each of these variables, one after the other
abbrev pub all_changed : (Fact → Fact) → Env → List ℕ → Env
all_changed rule env variables = fold (changed rule) env variables
