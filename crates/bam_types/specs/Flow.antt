-- The rule of the flow.
use Rattle.std.specs.Prelude.{Bool, true, false, cond, not, ◌&&◌, ◌||◌, ℕ, ◌-◌, nat_eq, nat_lt, List, length, Option, Some, None, slice_get}
use Rattle.bam_code.specs.declared.line.Line.{Line}
use Rattle.bam_code.specs.declared.line.Line.TheVariants as line
use Rattle.bam_code.specs.declared.switch_target.SwitchTarget.{SwitchTarget}
use Rattle.bam_code.specs.declared.switch_target.SwitchTarget.TheVariants as switch_target
use Rattle.bam_code.specs.declared.target.Target.{Target}
use Rattle.bam_code.specs.declared.target.Target.TheVariants as target
use Rattle.bam_types.specs.Labels.{Label, Within, is_label, label_of, target_label}

-- a run goes on from a line to the next one
abbrev pub goes_on : Line → Bool
goes_on (line.Jump target) = false
goes_on (line.Switch register reference atom integer list structure) = false
goes_on line.Fail = false
goes_on (line.Exec name) = false
goes_on line.Return = false
goes_on (line.Raise from) = false
goes_on _ = true

abbrev pub goes_on_from : Option Line → Bool
goes_on_from None = false
goes_on_from (Some line) = goes_on line

-- a run goes on to the line at a place, which the start counts as
abbrev pub is_entered : List Line → ℕ → Bool
is_entered lines at = cond (nat_eq at 0) true (goes_on_from (slice_get lines (at - 1)))

-- a line that is gone on to is no alternative and no ball, and another one is a label of any kind
abbrev pub keeps_entered : Option Label → Bool → Bool
keeps_entered None entered = entered
keeps_entered (Some label) entered = is_label label.kind || not entered

abbrev pub is_alternative_line : Option Line → Bool
is_alternative_line None = false
is_alternative_line (Some (line.Alt number frame items)) = true
is_alternative_line (Some _) = false

-- the line at a place stands first after an alternative
abbrev pub follows_alternative : List Line → ℕ → Bool
follows_alternative lines at = cond (nat_eq at 0) false (is_alternative_line (slice_get lines (at - 1)))

-- `retry` and `trust` do so
abbrev pub keeps_alternative : List Line → ℕ → Line → Bool
keeps_alternative lines at (line.Retry alternative) = follows_alternative lines at
keeps_alternative lines at line.Trust = follows_alternative lines at
keeps_alternative lines at _ = true

-- a last line does not go on
abbrev pub keeps_end : List Line → ℕ → Line → Bool
keeps_end lines at line = nat_lt at (length lines - 1) || not (goes_on line)

-- where a switch goes with a reference
abbrev pub of_reference : SwitchTarget → Target
of_reference (switch_target.Label number) = target.Label number
of_reference switch_target.Fails = target.Fails
of_reference switch_target.Never = target.Fails

abbrev pub is_later : ℕ → Option ℕ → Bool
is_later at None = false
is_later at (Some line) = nat_lt at line

-- a failing, or a label of any kind that stands after a place
abbrev pub is_any_after : Within → ℕ → Target → Bool
is_any_after within at (target.Label number) = is_later at (slice_get within.labels number)
is_any_after within at target.Fails = true

abbrev pub is_no_other : Option Label → Bool
is_no_other None = true
is_no_other (Some label) = is_label label.kind

-- a failing, or a label that stands after a place and is no alternative and no ball
abbrev pub is_label_after : Within → ℕ → Target → Bool
is_label_after within at target = is_any_after within at target && is_no_other (target_label within target)

-- each number that a line names is that of a label it may go to
abbrev pub keeps_targets : Within → ℕ → Line → Bool
keeps_targets within at (line.Jump target) = is_label_after within at target
keeps_targets within at (line.Switch register reference atom integer list structure) =
    is_label_after within at (of_reference reference) && is_label_after within at atom && is_label_after within at integer && is_label_after within at list && is_label_after within at structure
keeps_targets within at (line.Match register constant other) = is_label_after within at other
keeps_targets within at (line.Functor register functor other) = is_label_after within at other
keeps_targets within at (line.Try registers alternative) = is_any_after within at alternative
keeps_targets within at (line.Retry alternative) = is_any_after within at alternative
keeps_targets within at (line.Catch registers ball) = is_any_after within at ball
keeps_targets within at _ = true

-- the rule
abbrev pub keeps_flow : Within → ℕ → Line → Bool
keeps_flow within at line =
    keeps_entered (label_of line) (is_entered within.lines at) && keeps_end within.lines at line && keeps_alternative within.lines at line && keeps_targets within at line
