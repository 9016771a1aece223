-- Procedures of which moves are coalesced and which then have other registers.
use Rattle.std.proofs.Common.{◌≡◌, List, [], ◌∷◌, ◌∙◌}
use Rattle.std.specs.List.{AllZip}
use Rattle.bam_code.specs.declared.procedure.Proc.{Proc}
use Rattle.move_coalescing.specs.Coalesced.{IsCoalesced}
use Rattle.reg_alloc.specs.Allocated.{IsAllocated}
use Rattle.unify_special.specs.Steps.{steps_of}
use Rattle.aq_build.proofs.SameSteps.{steps_of-coalesced, steps_of-renamed}

-- the same signature and the same steps
pub record IsFinished (cleaned built : Proc) : Type 0 where
  pub signature : built.signature ≡ cleaned.signature
  pub steps : steps_of built.lines ≡ steps_of cleaned.lines

finished : (cleaned coalesced built : Proc) → IsCoalesced cleaned coalesced → IsAllocated coalesced built → IsFinished cleaned built
finished cleaned coalesced built one two = record {
  signature = two.signature ∙ one.signature;
  steps = steps_of-renamed two.new coalesced.lines built.lines two.lines ∙ steps_of-coalesced cleaned coalesced one;
}

pub all_finished : (cleaned coalesced built : List Proc) → AllZip IsCoalesced cleaned coalesced → AllZip IsAllocated coalesced built
    → AllZip IsFinished cleaned built
all_finished [] [] [] one two = tt
all_finished [] [] (z ∷ zs) one two = absurd two
all_finished [] (y ∷ ys) built one two = absurd one
all_finished (x ∷ xs) [] built one two = absurd one
all_finished (x ∷ xs) (y ∷ ys) [] one two = absurd two
all_finished (x ∷ xs) (y ∷ ys) (z ∷ zs) one two = (finished x y z one.0 two.0, all_finished xs ys zs one.1 two.1)
