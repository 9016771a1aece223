-- Which steps lines are, with other labels, other targets and other registers, and without moves.
use Rattle.std.proofs.Common.{◌≡◌, ℕ, Bool, true, false, cond, List, [], ◌∷◌, map, None, refl, sym, ap, ◌∙◌, arith}
use Rattle.std.specs.List.{AllZip, cons_option}
use Rattle.bam_code.specs.declared.line.Line.{Line}
use Rattle.bam_code.specs.declared.procedure.Proc.{Proc}
use Rattle.bam_peephole.specs.Acts.{acts, is_act}
use Rattle.bam_peephole.specs.Relabeled.{relabeled}
use Rattle.bam_peephole.specs.Threaded.{Thread, led, led_line, thread}
use Rattle.move_coalescing.specs.Coalesced.{IsCoalesced}
use Rattle.move_coalescing.specs.Outlines.{firm, is_register_move, outline}
use Rattle.reg_alloc.specs.Renamed.{IsRenamed}
use Rattle.unify_special.specs.Steps.{step_of, steps_of}

step_of-act : (l : Line) → cond (is_act l) (step_of (relabeled (λ number. 0) l)) None ≡ step_of l
step_of-act l = grind arith

steps_of-cond : (is : Bool) (l : Line) (ls : List Line) → steps_of (cond is (l ∷ ls) ls) ≡ cons_option (cond is (step_of l) None) (steps_of ls)
steps_of-cond true l ls = refl
steps_of-cond false l ls = refl

-- all steps are acts
pub steps_of-acts : (ls : List Line) → steps_of (acts ls) ≡ steps_of ls
steps_of-acts [] = refl
steps_of-acts (l ∷ ls) =
    steps_of-cond (is_act l) (relabeled (λ number. 0) l) (acts ls) ∙ rw (step_of-act l, steps_of-acts ls) refl

step_of-led : (thread : Thread) (l : Line) → step_of (led_line thread l) ≡ step_of l
step_of-led thread l = grind arith

pub steps_of-led : (ls : List Line) → steps_of (led ls) ≡ steps_of ls
steps_of-led [] = refl
steps_of-led (l ∷ ls) = rw (step_of-led (thread ls) l, steps_of-led ls) refl

step_of-renamed : (new : ℕ → ℕ) (l k : Line) → IsRenamed new l k → step_of k ≡ step_of l
step_of-renamed new l k is = grind arith

pub steps_of-renamed : (new : ℕ → ℕ) (ls ks : List Line) → AllZip (IsRenamed new) ls ks → steps_of ks ≡ steps_of ls
steps_of-renamed new [] [] all = refl
steps_of-renamed new [] (k ∷ ks) all = absurd all
steps_of-renamed new (l ∷ ls) [] all = absurd all
steps_of-renamed new (l ∷ ls) (k ∷ ks) all = rw (step_of-renamed new l k all.0, steps_of-renamed new ls ks all.1) refl

step_of-outline : (l : Line) → step_of (outline l) ≡ step_of l
step_of-outline l = grind arith

steps_of-outlines : (ls : List Line) → steps_of (map outline ls) ≡ steps_of ls
steps_of-outlines [] = refl
steps_of-outlines (l ∷ ls) = rw (step_of-outline l, steps_of-outlines ls) refl

step_of-firm : (l : Line) → cond (is_register_move l) None (step_of l) ≡ step_of l
step_of-firm l = grind arith

steps_of-unless : (is : Bool) (l : Line) (ls : List Line) → steps_of (cond is ls (l ∷ ls)) ≡ cons_option (cond is None (step_of l)) (steps_of ls)
steps_of-unless true l ls = refl
steps_of-unless false l ls = refl

-- moves are no steps
steps_of-firm : (ls : List Line) → steps_of (firm ls) ≡ steps_of ls
steps_of-firm [] = refl
steps_of-firm (l ∷ ls) = steps_of-unless (is_register_move l) l (firm ls) ∙ rw (step_of-firm l, steps_of-firm ls) refl

pub steps_of-coalesced : (before after : Proc) → IsCoalesced before after → steps_of after.lines ≡ steps_of before.lines
steps_of-coalesced before after is =
    sym (steps_of-outlines after.lines) ∙ sym (steps_of-firm (map outline after.lines)) ∙ ap steps_of is.lines.lines ∙ steps_of-firm (map outline before.lines)
    ∙ steps_of-outlines before.lines
