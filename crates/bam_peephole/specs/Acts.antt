-- The instructions but for jumps and moves in place.
use Rattle.std.specs.Prelude.{Bool, true, false, cond, not, ℕ, List, [], ◌∷◌}
use Rattle.bam_code.specs.declared.line.Line.{Line}
use Rattle.bam_code.specs.declared.line.Line.TheVariants as line
use Rattle.bam_peephole.specs.Clean.{moves_in_place}
use Rattle.bam_peephole.specs.Relabeled.{relabeled}

-- neither a label, nor a jump, nor a `move` of a place to itself
abbrev pub is_act : Line → Bool
is_act (line.Label number frame items) = false
is_act (line.Jump target) = false
is_act other = not (moves_in_place other)

-- those of these lines, whatever the numbers of labels
abbrev pub acts : List Line → List Line
acts [] = []
acts (line ∷ lines) = cond (is_act line) (relabeled (λ number. 0) line ∷ acts lines) (acts lines)
