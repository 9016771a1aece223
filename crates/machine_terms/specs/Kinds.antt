-- The kinds of a word that is no reference to a bound cell.
use Rattle.tag_word.specs.declared.tag.Tag.{Tag}
use Rattle.std.specs.Prelude.{Bool, true, false}
use Rattle.tag_word.specs.declared.tag.Tag.TheVariants as tag

-- the tags of atoms and integers
abbrev pub names_constant : Tag → Bool
names_constant tag.Atm = true
names_constant tag.Int = true
names_constant _ = false

-- the tags of compounds and list cells
abbrev pub names_compound : Tag → Bool
names_compound tag.Lst = true
names_compound tag.Str = true
names_compound _ = false
