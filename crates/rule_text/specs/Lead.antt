-- What a byte in front of a text says of what stands behind the layout there.
use Rattle.std.specs.Prelude.{ℕ, true, false, Option, None, Some, List, ◌∷◌}
use Rattle.source_meaning.specs.RuleFront.{behind_gap}
use Rattle.rule_text.specs.declared.layout.Lead.{Lead}
use Rattle.rule_text.specs.declared.layout.Lead.TheVariants as lead

abbrev pub lead_gives : Lead → ℕ → List ℕ → Option (List ℕ)
lead_gives lead.Layout byte bytes = behind_gap false bytes
lead_gives lead.Comment byte bytes = behind_gap true bytes
lead_gives lead.Behind byte bytes = Some (byte ∷ bytes)
lead_gives lead.Fault byte bytes = None
