-- The counts of steps with one more at the end.
use Rattle.std.proofs.Common.{◌≡◌, ℕ, zero, suc, ◌+◌, ◌<◌, Bool, true, false, List, [], ◌∷◌, ◌++◌, Option, None, Some, get_or, length, set, refl, ap, ◌∙◌, arith}
use Rattle.std.specs.List.{cons_option, list_all, sum_by}
use Rattle.std.specs.Prelude.{◌&&◌}
use Rattle.std.proofs.lemmas.List.Elements.{filter-append}
use Rattle.std.proofs.lemmas.List.Sums.{sum_by-append}
use Rattle.bam_code.specs.declared.line.Line.{Line}
use Rattle.kernel_ir.specs.declared.kernel_goal.KernelGoal.{KernelGoal}
use Rattle.unify_special.specs.Steps.{Step, step_of, steps_of, with_step}
use Rattle.goal_code.specs.Passed.{hole_lines, is_hole_line}
use Rattle.goal_code.specs.StepCounts.{counted}
use Rattle.goal_code.specs.GoalLines.{is_plain}

pub counted_more : (count : Step → ℕ) (steps : List Step) (step : Option Step)
    → sum_by count (with_step steps step) ≡ sum_by count steps + counted count step
counted_more count steps None = omega arith
counted_more count steps (Some step) = omega (arith, sum_by-append count steps (step ∷ []))

and_true : (a b : Bool) → (a && b) ≡ true → (a ≡ true) × (b ≡ true)
and_true true b e = (refl, e)
and_true false b e = absurd (let no : ⊥ = cc in no)

-- each of plain goals is one
pub plain_at : (gs : List KernelGoal) (i : ℕ) (g : KernelGoal) → list_all is_plain gs ≡ true → i < length gs → g ≡ get_or gs i g → is_plain g ≡ true
plain_at [] i g all h is = absurd (omega (arith, h))
plain_at (first ∷ gs) zero g all h is = rw is (and_true (is_plain first) (list_all is_plain gs) all).0
plain_at (first ∷ gs) (suc i) g all h is = plain_at gs i g (and_true (is_plain first) (list_all is_plain gs) all).1 (omega (arith, h)) is

-- a line in the place of one with the same step
pub steps_of_set : (lines : List Line) (i : ℕ) (old new : Line) → i < length lines → old ≡ get_or lines i old → step_of new ≡ step_of old
    → steps_of (set lines i new) ≡ steps_of lines
steps_of_set [] i old new h is same = absurd (omega (arith, h))
steps_of_set (first ∷ lines) zero old new h is same = ap (λ s. cons_option s (steps_of lines)) (same ∙ ap step_of is)
steps_of_set (first ∷ lines) (suc i) old new h is same =
    ap (cons_option (step_of first)) (steps_of_set lines i old new (omega (arith, h)) is same)

pub holes_more : (lines : List Line) (line : Line) → hole_lines (lines ++ line ∷ []) ≡ hole_lines lines ++ hole_lines (line ∷ [])
holes_more lines line = filter-append is_hole_line lines (line ∷ [])
