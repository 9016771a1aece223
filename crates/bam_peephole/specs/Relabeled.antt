-- Lines with other numbers for their labels.
use Rattle.std.specs.Prelude.{ℕ, ◌-◌, cond, nat_lt}
use Rattle.bam_code.specs.declared.line.Line.{Line}
use Rattle.bam_code.specs.declared.line.Line.TheVariants as line
use Rattle.bam_code.specs.declared.switch_target.SwitchTarget.{SwitchTarget}
use Rattle.bam_code.specs.declared.switch_target.SwitchTarget.TheVariants as switch_target
use Rattle.bam_code.specs.declared.target.Target.{Target}
use Rattle.bam_code.specs.declared.target.Target.TheVariants as target

abbrev pub relabeled_target : (ℕ → ℕ) → Target → Target
relabeled_target name (target.Label number) = target.Label (name number)
relabeled_target name target.Fails = target.Fails

abbrev pub relabeled_switch_target : (ℕ → ℕ) → SwitchTarget → SwitchTarget
relabeled_switch_target name (switch_target.Label number) = switch_target.Label (name number)
relabeled_switch_target name switch_target.Fails = switch_target.Fails
relabeled_switch_target name switch_target.Never = switch_target.Never

-- the line with another number for each label that it is or names
abbrev pub relabeled : (ℕ → ℕ) → Line → Line
relabeled name (line.Label number frame items) = line.Label (name number) frame items
relabeled name (line.Alt number frame items) = line.Alt (name number) frame items
relabeled name (line.Ball number frame items) = line.Ball (name number) frame items
relabeled name (line.Jump target) = line.Jump (relabeled_target name target)
relabeled name (line.Switch register reference atom integer list structure) =
    line.Switch register (relabeled_switch_target name reference) (relabeled_target name atom) (relabeled_target name integer) (relabeled_target name list) (relabeled_target name structure)
relabeled name (line.Match register constant other) = line.Match register constant (relabeled_target name other)
relabeled name (line.Functor register functor other) = line.Functor register functor (relabeled_target name other)
relabeled name (line.Try registers alternative) = line.Try registers (relabeled_target name alternative)
relabeled name (line.Retry alternative) = line.Retry (relabeled_target name alternative)
relabeled name (line.Catch registers ball) = line.Catch registers (relabeled_target name ball)
relabeled name other = other

-- the numbers below a count from the other end
abbrev pub from_the_end : ℕ → ℕ → ℕ
from_the_end count number = cond (nat_lt number count) (count - 1 - number) number
