-- The arguments of a compound by their number.
use Rattle.std.specs.Prelude.{◌≡◌, ◌≢◌, List, [], ◌∷◌, length}
use Rattle.term_meaning.specs.Plain.{Plain}
use Rattle.aq_term.specs.PlainOf.{plain}
use Rattle.source_program.specs.declared.arguments.Arguments.{Arguments}
use Rattle.source_program.specs.declared.arguments.Arguments.TheVariants as arguments

abbrev pub AreArguments : List Plain → Arguments → Type 0
AreArguments ts (arguments.One only) = ts ≡ plain only.now ∷ []
AreArguments ts (arguments.Two left right) = ts ≡ plain left.now ∷ plain right.now ∷ []
AreArguments ts (arguments.Three first second third) = ts ≡ plain first.now ∷ plain second.now ∷ plain third.now ∷ []
AreArguments ts arguments.Others = (length ts ≢ 1) × (length ts ≢ 2) × (length ts ≢ 3)
