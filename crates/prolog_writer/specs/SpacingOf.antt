-- The pieces of an infix operator's name with its spacing.
use Rattle.std.specs.Prelude.{ℕ, List}
use Rattle.term_text.specs.Pieces.{Piece}
use Rattle.term_text.specs.Written.{Setting, operator, spaced, apart}
use Rattle.prolog_writer.specs.declared.spacing.Spacing.{Spacing}
use Rattle.prolog_writer.specs.declared.spacing.Spacing.TheVariants.{Tight, Spaced, Apart}

abbrev pub spaced_by : Setting → ℕ → Spacing → List Piece
spaced_by s n Tight = operator s n
spaced_by s n Spaced = spaced s n
spaced_by s n Apart = apart s n
