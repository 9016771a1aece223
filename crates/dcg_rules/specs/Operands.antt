-- The arguments of a compound by their number.
use Rattle.std.specs.Prelude.{◌≡◌, ◌≢◌, List, [], ◌∷◌, length}
use Rattle.term_meaning.specs.Plain.{Plain}
use Rattle.aq_term.specs.PlainOf.{plain}
use Rattle.dcg_rules.specs.declared.operand_list.Operands.{Operands}
use Rattle.dcg_rules.specs.declared.operand_list.Operands.TheVariants as operands

abbrev pub AreOperands : List Plain → Operands → Type 0
AreOperands ts (operands.One only) = ts ≡ plain only.now ∷ []
AreOperands ts (operands.Two left right) = ts ≡ plain left.now ∷ plain right.now ∷ []
AreOperands ts operands.Others = (length ts ≢ 1) × (length ts ≢ 2)
