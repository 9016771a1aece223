-- The labels that lines are.
use Rattle.std.specs.Prelude.{ℕ, Option, Some, None}
use Rattle.bam_code.specs.declared.line.Line.{Line}
use Rattle.bam_code.specs.declared.line.Line.TheVariants as line

-- the number of a label that is no alternative and no label of a ball
abbrev pub plain_label : Line → Option ℕ
plain_label (line.Label number frame items) = Some number
plain_label _ = None

-- the number of a label of any kind
abbrev pub any_label : Line → Option ℕ
any_label (line.Label number frame items) = Some number
any_label (line.Alt number frame items) = Some number
any_label (line.Ball number frame items) = Some number
any_label _ = None
