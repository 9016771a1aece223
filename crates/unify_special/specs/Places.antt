-- Where the variables of a clause stand.
use Rattle.std.specs.Prelude.{ℕ, List, Option, Some, None, get_or, unwrap_or}
use Rattle.bam_code.specs.declared.source.Source.{Source}
use Rattle.bam_code.specs.declared.source.Source.TheVariants as source
use Rattle.unify_special.specs.declared.place.Place.{Place}
use Rattle.unify_special.specs.declared.place.Place.TheVariants as place

-- the place of a variable: past the end it stands nowhere
abbrev pub place_of : List Place → ℕ → Place
place_of places variable = get_or places variable place.Nowhere

-- the operand that names a place; for a boxed value the slot with the reference to it
abbrev pub source_of : Place → Option Source
source_of place.Nowhere = None
source_of (place.Register number) = Some (source.Register number)
source_of (place.Slot number) = Some (source.Slot number)
source_of (place.Boxed number) = Some (source.Slot number)

-- the operand that names the place of a variable; for one that stands nowhere a register that is never set
abbrev pub operand_of : List Place → ℕ → Source
operand_of places variable = unwrap_or (source_of (place_of places variable)) (source.Register 65535)
