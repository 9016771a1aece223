-- How often facts can still rise.
use Rattle.std.specs.Prelude.{ℕ, Bool, cond, List, sum_by}
use Rattle.type_lattice.specs.declared.fact.Fact.{Fact}
use Rattle.type_lattice.specs.declared.fact.Fact.TheVariants as fact

abbrev pub rises_of : Fact → ℕ
rises_of fact.Bot = 5
rises_of fact.Out = 1
rises_of fact.Full = 4
rises_of fact.GroundDirect = 3
rises_of fact.Ground = 2
rises_of fact.Direct = 2
rises_of fact.Nonvar = 1
rises_of fact.Any = 0

abbrev pub all_rises_of : List Fact → ℕ
all_rises_of facts = sum_by rises_of facts

abbrev pub one_where : Bool → ℕ
one_where b = cond b 1 0
