-- Lines that a run comes to, by which labels were named.
use Rattle.std.proofs.Common.{◌≡◌, ℕ, Bool, true, false, cond, ◌||◌, ◌&&◌, List, [], ◌∷◌, ◌++◌, Option, Some, None, refl, ap, sym, ◌∙◌, append_assoc}
use Rattle.bam_code.specs.declared.line.Line.{Line}
use Rattle.bam_peephole.specs.LineLabels.{any_label}
use Rattle.bam_peephole.specs.Reached.{Named, goes_on, is_named, is_reached, names_label, reached_lines, with_targets}

is_named-same : (n m : Named) (o : Option ℕ) → ((q : ℕ) → m q ≡ n q) → is_named m o ≡ is_named n o
is_named-same n m None same = refl
is_named-same n m (Some q) same = same q

-- the same labels are named
pub reached-same : (gone_on : Bool) (n m : Named) (ls : List Line) → ((q : ℕ) → m q ≡ n q) → reached_lines gone_on m ls ≡ reached_lines gone_on n ls
reached-same gone_on n m [] same = refl
reached-same gone_on n m (l ∷ ls) same =
    rw (is_named-same n m (any_label l) same, reached-same (goes_on l) (with_targets n l) (with_targets m l) ls (λ q. rw (same q) refl), reached-same false n m ls same) refl

or_false : (b : Bool) → (b || false) ≡ b
or_false true = refl
or_false false = refl

-- past one line
pub reached-step : (gone_on is : Bool) (n m : Named) (l : Line) (ls : List Line) → is ≡ is_reached gone_on n l
    → ((q : ℕ) → m q ≡ (n q || (is && names_label q l)))
    → reached_lines gone_on n (l ∷ ls) ≡ cond is (l ∷ []) [] ++ reached_lines (is && goes_on l) m ls
reached-step gone_on true n m l ls e named =
    rw (← e, reached-same (goes_on l) (with_targets n l) m ls named) refl
reached-step gone_on false n m l ls e named =
    rw (← e, reached-same false n m ls (λ q. named q ∙ or_false (n q))) refl

-- past one line, behind those that were come to
pub put-step : (old new : List Line) (gone_on goes is : Bool) (n m : Named) (l : Line) (rest : List Line) → is ≡ is_reached gone_on n l → goes ≡ (is && goes_on l)
    → ((q : ℕ) → m q ≡ (n q || (is && names_label q l))) → new ≡ old ++ cond is (l ∷ []) []
    → old ++ reached_lines gone_on n (l ∷ rest) ≡ new ++ reached_lines goes m rest
put-step old new gone_on goes is n m l rest here on named more =
    rw (reached-step gone_on is n m l rest here named, more, on) (sym (append_assoc old (cond is (l ∷ []) []) (reached_lines (is && goes_on l) m rest)))
