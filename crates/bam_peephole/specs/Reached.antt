-- The lines that a run may come to.
use Rattle.std.specs.Prelude.{Bool, true, false, cond, ◌||◌, ℕ, nat_eq, List, [], ◌∷◌, Option, Some, None}
use Rattle.bam_code.specs.declared.line.Line.{Line}
use Rattle.bam_code.specs.declared.line.Line.TheVariants as line
use Rattle.bam_code.specs.declared.switch_target.SwitchTarget.{SwitchTarget}
use Rattle.bam_code.specs.declared.switch_target.SwitchTarget.TheVariants as switch_target
use Rattle.bam_peephole.specs.LineLabels.{any_label}
use Rattle.bam_peephole.specs.Threaded.{is_number}

abbrev pub names_by_switch : ℕ → SwitchTarget → Bool
names_by_switch number (switch_target.Label other) = nat_eq other number
names_by_switch number switch_target.Fails = false
names_by_switch number switch_target.Never = false

-- a line may go to the label of this number
abbrev pub names_label : ℕ → Line → Bool
names_label number (line.Jump target) = is_number number target
names_label number (line.Retry target) = is_number number target
names_label number (line.Match register constant target) = is_number number target
names_label number (line.Functor register functor target) = is_number number target
names_label number (line.Try registers target) = is_number number target
names_label number (line.Catch registers target) = is_number number target
names_label number (line.Switch register reference atom integer list structure) =
    names_by_switch number reference || (is_number number atom || is_number number integer) || (is_number number list || is_number number structure)
names_label number _ = false

-- a run goes on from a line to the next one
abbrev pub goes_on : Line → Bool
goes_on (line.Jump target) = false
goes_on (line.Switch register reference atom integer list structure) = false
goes_on line.Fail = false
goes_on (line.Exec name) = false
goes_on line.Return = false
goes_on (line.Raise from) = false
goes_on _ = true

-- which labels were named
abbrev pub Named : Type 0
Named = ℕ → Bool

abbrev pub nothing_named : Named
nothing_named number = false

abbrev pub is_named : Named → Option ℕ → Bool
is_named named None = false
is_named named (Some number) = named number

-- the line is gone on to, or it is a label of any kind that was named
abbrev pub is_reached : Bool → Named → Line → Bool
is_reached gone_on named line = gone_on || is_named named (any_label line)

abbrev pub with_targets : Named → Line → Named
with_targets named line number = named number || names_label number line

-- those of these lines that a run comes to, where it goes on to the first one or not, and where some labels were named
abbrev pub reached_lines : Bool → Named → List Line → List Line
reached_lines gone_on named [] = []
reached_lines gone_on named (line ∷ lines) =
    cond (is_reached gone_on named line) (line ∷ reached_lines (goes_on line) (with_targets named line) lines) (reached_lines false named lines)
