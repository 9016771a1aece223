-- The rules in the order in which a line is tested.
use Rattle.std.specs.Prelude.{Bool, cond, ℕ, List, Option, Some, None}
use Rattle.aq_term.specs.declared.rule.Rule.{Rule}
use Rattle.aq_term.specs.declared.rule.Rule.TheVariants as rule
use Rattle.bam_code.specs.declared.line.Line.{Line}
use Rattle.bam_types.specs.declared.state.State.{State}
use Rattle.bam_types.specs.CallRule.{keeps_call}
use Rattle.bam_types.specs.Flow.{is_entered, keeps_flow}
use Rattle.bam_types.specs.HoleRule.{keeps_hole}
use Rattle.bam_types.specs.Labels.{Within}
use Rattle.bam_types.specs.LineRules.{keeps_open, keeps_choice, keeps_result, keeps_state, keeps_catch}
use Rattle.bam_types.specs.PlaceRules.{keeps_frame, keeps_set, keeps_slot, keeps_index, keeps_cell}
use Rattle.bam_types.specs.SwitchRule.{keeps_tag}

-- the rule, where it is not kept, and else what the rules after it say
abbrev pub unless : Bool → Rule → Option Rule → Option Rule
unless keeps rule later = cond keeps later (Some rule)

-- the first broken rule of those on operands
unfoldable pub broken_by_operands : Within → State → ℕ → Line → Option Rule
broken_by_operands within state at line =
    unless (keeps_flow within at line) rule.Flow (unless (keeps_frame state line) rule.Frame (unless (keeps_set within.pool state line) rule.Unset (unless (keeps_slot state line) rule.Slot (unless (keeps_index state line) rule.Index (unless (keeps_tag within.pool state line) rule.Tag (unless (keeps_cell state line) rule.Index None))))))

-- the first broken rule of the others
unfoldable pub broken_by_effect : Within → State → Bool → Line → Option Rule
broken_by_effect within state entered line =
    unless (keeps_open state line) rule.Open (unless (keeps_call within state line) rule.Call (unless (keeps_choice within state line) rule.Choice (unless (keeps_hole within state entered line) rule.Hole (unless (keeps_result within state line) rule.Result (unless (keeps_state within state entered line) rule.State (unless (keeps_catch within state line) rule.Catch None))))))

abbrev pub first_of_both : Option Rule → Option Rule → Option Rule
first_of_both None later = later
first_of_both (Some rule) later = Some rule

-- the first rule that a line breaks, if any
unfoldable pub broken : Within → State → ℕ → Line → Option Rule
broken within state at line =
    first_of_both (broken_by_operands within state at line) (broken_by_effect within state (is_entered within.lines at) line)
