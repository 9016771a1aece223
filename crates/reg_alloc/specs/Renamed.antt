-- Lines with other registers.
use Rattle.std.specs.Prelude.{◌≡◌, ℕ, List, map}
use Rattle.std.specs.List.Sorted.{IsPermutation}
use Rattle.bam_code.specs.declared.item.Item.{Item}
use Rattle.bam_code.specs.declared.item.Item.TheVariants as item
use Rattle.bam_code.specs.declared.line.Line.{Line}
use Rattle.bam_code.specs.declared.line.Line.TheVariants as line
use Rattle.bam_code.specs.declared.place.Place.{Place}
use Rattle.bam_code.specs.declared.place.Place.TheVariants as at_place
use Rattle.bam_code.specs.declared.source.Source.{Source}
use Rattle.bam_code.specs.declared.source.Source.TheVariants as source

abbrev pub renamed_source : (ℕ → ℕ) → Source → Source
renamed_source new (source.Register number) = source.Register (new number)
renamed_source new other = other

abbrev pub renamed_place : (ℕ → ℕ) → Place → Place
renamed_place new (at_place.Register number) = at_place.Register (new number)
renamed_place new (at_place.Slot number) = at_place.Slot number

abbrev pub renamed_item : (ℕ → ℕ) → Item → Item
renamed_item new (item.Argument argument known) = item.Argument argument known
renamed_item new (item.Place place holds mark) = item.Place (renamed_place new place) holds mark

-- a line that computes with numbers, or compares terms
abbrev pub renamed_numbers : (ℕ → ℕ) → Line → Line
renamed_numbers new (line.Arith operation register left right) = line.Arith operation (new register) (renamed_source new left) (renamed_source new right)
renamed_numbers new (line.Eval register expression) = line.Eval (new register) (renamed_source new expression)
renamed_numbers new (line.Less comparison left right) = line.Less comparison (renamed_source new left) (renamed_source new right)
renamed_numbers new (line.Same sameness left right) = line.Same sameness (renamed_source new left) (renamed_source new right)
renamed_numbers new other = other

-- any line but a label, an alternative and the label of a ball
abbrev pub renamed : (ℕ → ℕ) → Line → Line
renamed new (line.Move into from) = line.Move (renamed_place new into) (renamed_source new from)
renamed new (line.Deref register word) = line.Deref (new register) (renamed_source new word)
renamed new (line.Load register word cell) = line.Load (new register) (renamed_source new word) cell
renamed new (line.Bind register word) = line.Bind (new register) (renamed_source new word)
renamed new (line.Unify register word) = line.Unify (new register) (renamed_source new word)
renamed new (line.Fill register word) = line.Fill (new register) (renamed_source new word)
renamed new (line.Structure register functor) = line.Structure (new register) functor
renamed new (line.ListCell register) = line.ListCell (new register)
renamed new (line.PushNew register) = line.PushNew (new register)
renamed new (line.Fresh register) = line.Fresh (new register)
renamed new (line.Hole register holds) = line.Hole (new register) holds
renamed new (line.Mark register) = line.Mark (new register)
renamed new (line.Switch register reference atom integer list structure) = line.Switch (new register) reference atom integer list structure
renamed new (line.Match register constant other) = line.Match (new register) constant other
renamed new (line.Functor register functor other) = line.Functor (new register) functor other
renamed new (line.Push word) = line.Push (renamed_source new word)
renamed new (line.Cut word) = line.Cut (renamed_source new word)
renamed new (line.Raise word) = line.Raise (renamed_source new word)
renamed new other = renamed_numbers new other

-- a label's items may stand in another order
abbrev pub HasItems : (List Item → Line) → (ℕ → ℕ) → List Item → Line → Type 0
HasItems labelled new items after = (others : List Item) × (after ≡ labelled others) × IsPermutation (map (renamed_item new) items) others

-- the line after is that before with other registers, and its items may stand in another order
abbrev pub IsRenamed : (ℕ → ℕ) → Line → Line → Type 0
IsRenamed new (line.Label number frame items) after = HasItems (line.Label number frame) new items after
IsRenamed new (line.Alt number frame items) after = HasItems (line.Alt number frame) new items after
IsRenamed new (line.Ball number frame items) after = HasItems (line.Ball number frame) new items after
IsRenamed new other after = after ≡ renamed new other
