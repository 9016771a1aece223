-- The registers that lines name by their numbers, each as often as it is named.
use Rattle.std.specs.Prelude.{ℕ, List, [], ◌∷◌, ◌++◌}
use Rattle.bam_code.specs.declared.item.Item.{Item}
use Rattle.bam_code.specs.declared.item.Item.TheVariants as item
use Rattle.bam_code.specs.declared.line.Line.{Line}
use Rattle.bam_code.specs.declared.line.Line.TheVariants as line
use Rattle.bam_code.specs.declared.place.Place.{Place}
use Rattle.bam_code.specs.declared.place.Place.TheVariants as at_place
use Rattle.bam_code.specs.declared.source.Source.{Source}
use Rattle.bam_code.specs.declared.source.Source.TheVariants as source

abbrev pub source_registers : Source → List ℕ
source_registers (source.Register number) = number ∷ []
source_registers _ = []

abbrev pub place_registers : Place → List ℕ
place_registers (at_place.Register number) = number ∷ []
place_registers (at_place.Slot number) = []

abbrev pub item_registers : Item → List ℕ
item_registers (item.Argument argument known) = []
item_registers (item.Place place holds mark) = place_registers place

abbrev pub items_registers : List Item → List ℕ
items_registers [] = []
items_registers (item ∷ items) = item_registers item ++ items_registers items

-- of a line that computes with numbers, or compares terms
abbrev pub number_registers : Line → List ℕ
number_registers (line.Arith operation register left right) = register ∷ (source_registers left ++ source_registers right)
number_registers (line.Eval register expression) = register ∷ source_registers expression
number_registers (line.Less comparison left right) = source_registers left ++ source_registers right
number_registers (line.Same sameness left right) = source_registers left ++ source_registers right
number_registers _ = []

-- of any line
abbrev pub registers_of : Line → List ℕ
registers_of (line.Label number frame items) = items_registers items
registers_of (line.Alt number frame items) = items_registers items
registers_of (line.Ball number frame items) = items_registers items
registers_of (line.Move into from) = place_registers into ++ source_registers from
registers_of (line.Deref register word) = register ∷ source_registers word
registers_of (line.Load register word cell) = register ∷ source_registers word
registers_of (line.Bind register word) = register ∷ source_registers word
registers_of (line.Unify register word) = register ∷ source_registers word
registers_of (line.Fill register word) = register ∷ source_registers word
registers_of (line.Structure register functor) = register ∷ []
registers_of (line.ListCell register) = register ∷ []
registers_of (line.PushNew register) = register ∷ []
registers_of (line.Fresh register) = register ∷ []
registers_of (line.Hole register holds) = register ∷ []
registers_of (line.Mark register) = register ∷ []
registers_of (line.Switch register reference atom integer list structure) = register ∷ []
registers_of (line.Match register constant other) = register ∷ []
registers_of (line.Functor register functor other) = register ∷ []
registers_of (line.Push word) = source_registers word
registers_of (line.Cut word) = source_registers word
registers_of (line.Raise word) = source_registers word
registers_of other = number_registers other
