-- What a goal says of one variable: the fact before, and the fact after.
use Rattle.std.specs.Prelude.{Bool, cond}
use Rattle.aq_term.specs.declared.mode.Mode.{Mode}
use Rattle.aq_term.specs.declared.mode.Mode.TheVariants as mode
use Rattle.type_lattice.specs.declared.fact.Fact.{Fact}
use Rattle.type_lattice.specs.declared.fact.Fact.TheVariants as fact
use Rattle.type_lattice.specs.Facts.{strip, with}

-- of a variable that a cell stands for from now on
abbrev pub seen : Fact → Fact
seen fact.Bot = fact.Bot
seen fact.Out = fact.Any
seen fact.Full = fact.Full
seen fact.GroundDirect = fact.GroundDirect
seen fact.Ground = fact.Ground
seen fact.Direct = fact.Direct
seen fact.Nonvar = fact.Nonvar
seen fact.Any = fact.Any

-- of X in X = c, where c holds no variable, and in X is E
abbrev pub equal_to_ground : Fact → Fact
equal_to_ground fact.Bot = fact.Bot
equal_to_ground fact.Out = fact.Full
equal_to_ground fact.Full = fact.Full
equal_to_ground fact.GroundDirect = fact.GroundDirect
equal_to_ground fact.Ground = fact.Ground
equal_to_ground fact.Direct = fact.GroundDirect
equal_to_ground fact.Nonvar = fact.Ground
equal_to_ground fact.Any = fact.Ground

-- of X in X = Y, by the facts of X and of Y
abbrev pub equal_to : Fact → Fact → Fact
equal_to fact.Out fact.Out = fact.Any
equal_to fact.Out y = y
equal_to x fact.Out = x
equal_to x y = with x (strip y)

-- of a compound that is made here, by whether all its variables are full, and whether all are ground
abbrev pub made : Bool → Bool → Fact
made all_full all_ground = cond all_full fact.Full (cond all_ground fact.GroundDirect fact.Direct)

-- of a variable in T of X = T, by the fact of X, which is ground
abbrev pub part_of_ground : Fact → Fact → Fact
part_of_ground fact.Full fact.Out = fact.Full
part_of_ground x fact.Out = fact.Ground
part_of_ground x part = with part fact.Ground

-- of an argument of a call behind it, by its fact and by those of the callee at its call and its success
abbrev pub argument_after : Fact → Fact → Fact → Fact
argument_after fact.Out fact.Out success = success
argument_after argument call success = with (seen argument) (strip success)

-- of an argument where its predicate succeeds, by the fact at the call and that at the end of a clause
abbrev pub result_of : Fact → Fact → Fact
result_of fact.Out end = seen end
result_of call end = strip end

-- of an argument of a query
abbrev pub entry_of : Mode → Fact
entry_of mode.Ground = fact.Full
entry_of mode.Nonvar = fact.Direct
entry_of mode.Out = fact.Out
entry_of mode.Any = fact.Any
