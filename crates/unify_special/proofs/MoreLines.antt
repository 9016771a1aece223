-- The steps and the moves of lines with one more at the end.
use Rattle.std.proofs.Common.{◌≡◌, ◌+◌, List, [], ◌∷◌, ◌++◌, Option, None, Some, refl, ◌∙◌, arith}
use Rattle.std.specs.List.{cons_option}
use Rattle.std.proofs.lemmas.List.{append-nil}
use Rattle.std.proofs.lemmas.List.Elements.{filter_map-append}
use Rattle.std.proofs.lemmas.List.Sums.{sum_by-append}
use Rattle.bam_code.specs.declared.line.Line.{Line}
use Rattle.unify_special.specs.Steps.{Step, step_of, steps_of, with_step, moves_of, moves_of_line}

with_one : (steps : List Step) (step : Option Step) → steps ++ cons_option step [] ≡ with_step steps step
with_one steps None = append-nil steps
with_one steps (Some step) = refl

pub steps_of_more : (lines : List Line) (line : Line) → steps_of (lines ++ line ∷ []) ≡ with_step (steps_of lines) (step_of line)
steps_of_more lines line = filter_map-append step_of lines (line ∷ []) ∙ with_one (steps_of lines) (step_of line)

pub moves_of_more : (lines : List Line) (line : Line) → moves_of (lines ++ line ∷ []) ≡ moves_of lines + moves_of_line line
moves_of_more lines line = omega (arith, sum_by-append moves_of_line lines (line ∷ []))
