-- The lines that a run may come to have no more steps of any kind than all lines have.
use Rattle.std.proofs.Common.{◌≡◌, ℕ, ◌+◌, ◌≤◌, Bool, true, false, cond, List, [], ◌∷◌, Option, Some, None, sym, ap, ◌∙◌, arith, sum_by}
use Rattle.std.specs.List.{cons_option}
use Rattle.std.proofs.lemmas.List.Sums.{sum_by-cons}
use Rattle.bam_code.specs.declared.line.Line.{Line}
use Rattle.bam_code.specs.declared.procedure.Proc.{Proc}
use Rattle.bam_peephole.specs.Cleaned.{IsCleaned}
use Rattle.bam_peephole.specs.Reached.{Named, goes_on, is_reached, nothing_named, reached_lines, with_targets}
use Rattle.bam_peephole.specs.Threaded.{led}
use Rattle.goal_code.specs.StepCounts.{counted}
use Rattle.unify_special.specs.Steps.{Step, step_of, steps_of}
use Rattle.aq_build.proofs.SameSteps.{steps_of-acts, steps_of-led}

counted_first : (count : Step → ℕ) (step : Option Step) (steps : List Step) → sum_by count (cons_option step steps) ≡ counted count step + sum_by count steps
counted_first count None steps = omega arith
counted_first count (Some step) steps = sum_by-cons count step steps

less_first : (count : Step → ℕ) (is : Bool) (l : Line) (come other ls : List Line) → sum_by count (steps_of come) ≤ sum_by count (steps_of ls)
    → sum_by count (steps_of other) ≤ sum_by count (steps_of ls) → sum_by count (steps_of (cond is (l ∷ come) other)) ≤ sum_by count (steps_of (l ∷ ls))
less_first count true l come other ls less fewer =
    omega (arith, counted_first count (step_of l) (steps_of come), counted_first count (step_of l) (steps_of ls), less)
less_first count false l come other ls less fewer = omega (arith, counted_first count (step_of l) (steps_of ls), fewer)

less_reached : (count : Step → ℕ) (gone_on : Bool) (named : Named) (ls : List Line)
    → sum_by count (steps_of (reached_lines gone_on named ls)) ≤ sum_by count (steps_of ls)
less_reached count gone_on named [] = omega arith
less_reached count gone_on named (l ∷ ls) =
    less_first count (is_reached gone_on named l) l (reached_lines (goes_on l) (with_targets named l) ls) (reached_lines false named ls) ls
    (less_reached count (goes_on l) (with_targets named l) ls) (less_reached count false named ls)

pub less_cleaned : (count : Step → ℕ) (before after : Proc) → IsCleaned before after
    → sum_by count (steps_of after.lines) ≤ sum_by count (steps_of before.lines)
less_cleaned count before after is =
    let come : List Line = reached_lines true nothing_named (led before.lines) in
    let same : steps_of after.lines ≡ steps_of come = sym (steps_of-acts after.lines) ∙ ap steps_of is.acts ∙ steps_of-acts come in
    omega (arith, ap (sum_by count) same, less_reached count true nothing_named (led before.lines), ap (sum_by count) (steps_of-led before.lines))
