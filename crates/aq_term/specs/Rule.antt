use Rattle.std.specs.Prelude.{ℕ, List, codes}
use Rattle.aq_term.specs.declared.rule.Rule.{Rule}
use Rattle.aq_term.specs.declared.rule.Rule.TheVariants as rule

-- a rule's name in a refusal
abbrev pub word_of : Rule → List ℕ
word_of rule.Flow = codes "flow"
word_of rule.Frame = codes "frame"
word_of rule.Unset = codes "unset"
word_of rule.Slot = codes "slot"
word_of rule.Index = codes "index"
word_of rule.Tag = codes "tag"
word_of rule.Open = codes "open"
word_of rule.Call = codes "call"
word_of rule.Choice = codes "choice"
word_of rule.Hole = codes "hole"
word_of rule.Result = codes "result"
word_of rule.State = codes "state"
word_of rule.Entry = codes "entry"
word_of rule.Catch = codes "catch"
