-- Facts of terms and words, and their order.
use Rattle.std.specs.Prelude.{Bool, true, false, cond}
use Rattle.type_lattice.specs.declared.fact.Fact.{Fact}
use Rattle.type_lattice.specs.declared.fact.Fact.TheVariants as fact

-- whether what has the first fact has the second
abbrev pub below : Fact → Fact → Bool
below fact.Bot _ = true
below fact.Out fact.Out = true
below fact.Out fact.Any = true
below fact.Out _ = false
below fact.Full fact.Full = true
below fact.Full fact.GroundDirect = true
below fact.Full fact.Ground = true
below fact.Full fact.Direct = true
below fact.Full fact.Nonvar = true
below fact.Full fact.Any = true
below fact.Full _ = false
below fact.GroundDirect fact.GroundDirect = true
below fact.GroundDirect fact.Ground = true
below fact.GroundDirect fact.Direct = true
below fact.GroundDirect fact.Nonvar = true
below fact.GroundDirect fact.Any = true
below fact.GroundDirect _ = false
below fact.Ground fact.Ground = true
below fact.Ground fact.Nonvar = true
below fact.Ground fact.Any = true
below fact.Ground _ = false
below fact.Direct fact.Direct = true
below fact.Direct fact.Nonvar = true
below fact.Direct fact.Any = true
below fact.Direct _ = false
below fact.Nonvar fact.Nonvar = true
below fact.Nonvar fact.Any = true
below fact.Nonvar _ = false
below fact.Any fact.Any = true
below fact.Any _ = false

-- the least fact above both
abbrev pub join : Fact → Fact → Fact
join fact.Bot b = b
join a fact.Bot = a
join fact.Ground fact.Direct = fact.Nonvar
join fact.Direct fact.Ground = fact.Nonvar
join a b = cond (below a b) b (cond (below b a) a fact.Any)

-- the greatest fact below both
abbrev pub meet : Fact → Fact → Fact
meet fact.Any b = b
meet a fact.Any = a
meet fact.Ground fact.Direct = fact.GroundDirect
meet fact.Direct fact.Ground = fact.GroundDirect
meet a b = cond (below a b) a (cond (below b a) b fact.Bot)

-- what a fact says of the term alone
abbrev pub strip : Fact → Fact
strip a = cond (below a fact.Ground) fact.Ground (cond (below a fact.Nonvar) fact.Nonvar fact.Any)

-- the fact of what is known to be so besides: ground, no variable, or any
abbrev pub with : Fact → Fact → Fact
with fact.Out k = k
with fact.Any k = k
with fact.Nonvar fact.Ground = fact.Ground
with fact.Direct fact.Ground = fact.GroundDirect
with a _ = a
