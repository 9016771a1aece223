-- The faults of a clause.
use Rattle.std.specs.Prelude.{◌≡◌, Option, None}
use Rattle.prolog_reader.specs.declared.built.TermFault.{TermFault}
use Rattle.prolog_reader.specs.declared.built.TermFault.TheVariants as term_fault
use Rattle.prolog_reader.specs.declared.fault.ReadFault.{ReadFault}
use Rattle.prolog_reader.specs.declared.fault.ReadFault.TheVariants.{Depth, Syntax, IntRange, ArityLimit, Memory}

abbrev pub read_fault : TermFault → ReadFault
read_fault term_fault.IntRange = IntRange
read_fault term_fault.ArityLimit = ArityLimit
read_fault term_fault.Depth = Depth

-- the fault of words of which the machine makes nothing
abbrev pub Refuses : {X : Type 0} → ReadFault → Option X → Type 0
Refuses Syntax made = made ≡ None
Refuses Memory made = Unit {0}
Refuses Depth made = ⊥
Refuses IntRange made = ⊥
Refuses ArityLimit made = ⊥
