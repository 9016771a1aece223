-- Runs worked out.
use Rattle.std.proofs.Common.{◌≡◌, ℕ, List, [], ◌∷◌, refl}
use Rattle.run_meaning.specs.Machine.{over, after}
use Rattle.run_meaning.specs.Event.{solution}
use Rattle.aq_base.specs.declared.limits.Limits.{Limits}
use Rattle.aq_base.specs.declared.area_name.AreaName.TheVariants as area
use Rattle.bam_meaning.specs.Instruction.{Instruction, answer, fail, exec, call, return_, allocate, deallocate, try, trust}
use Rattle.bam_meaning.specs.State.{start_at}
use Rattle.bam_meaning.specs.Step.{exhausted, step}
use Rattle.bam_meaning.specs.Limited.{finished, out_of_steps, out_of_area, limited}

-- p :- q, r. q. q. r.
abbrev two_solutions : List Instruction
two_solutions =
    answer ∷ fail ∷ allocate 1 ∷ call 6 ∷ deallocate ∷ exec 10 ∷ try 0 8 ∷ return_ ∷ trust ∷ return_ ∷ return_ ∷ []

-- loop :- loop.
abbrev endless : List Instruction
endless = answer ∷ fail ∷ exec 2 ∷ []

two_solutions_and_no_more : after (step two_solutions) 20 (start_at 2) ≡ record { events = solution tt ∷ solution tt ∷ []; work = 16; stand = over exhausted }
two_solutions_and_no_more = refl

abbrev words : ℕ → ℕ → Limits
words env choice = record { steps = 99; heap = 1; env = env; choice = choice; trail = 1; work = 1 }

just_enough : after (limited (words 3 8) two_solutions) 20 (record { left = 16; state = start_at 2 }) ≡ record { events = solution tt ∷ solution tt ∷ []; work = 16; stand = over (finished exhausted) }
just_enough = refl

one_step_less : after (limited (words 3 8) two_solutions) 20 (record { left = 15; state = start_at 2 }) ≡ record { events = solution tt ∷ solution tt ∷ []; work = 15; stand = over out_of_steps }
one_step_less = refl

one_word_less_of_env : after (limited (words 2 8) two_solutions) 20 (record { left = 99; state = start_at 2 }) ≡ record { events = []; work = 1; stand = over (out_of_area area.Env) }
one_word_less_of_env = refl

one_word_less_of_choices : after (limited (words 3 7) two_solutions) 20 (record { left = 99; state = start_at 2 }) ≡ record { events = []; work = 3; stand = over (out_of_area area.Choice) }
one_word_less_of_choices = refl

never_done : after (limited (words 3 8) endless) 50 (record { left = 40; state = start_at 2 }) ≡ record { events = []; work = 40; stand = over out_of_steps }
never_done = refl
