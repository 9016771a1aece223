-- A run under limits is the run itself, as far as it goes.
use Rattle.std.proofs.Common.{◌≡◌, ℕ, zero, suc, ◌+◌, Bool, true, false, cond, leb, List, [], ◌++◌, refl, sym, subst, ap, ◌∙◌}
use Rattle.aq_base.specs.declared.limits.Limits.{Limits}
use Rattle.aq_base.specs.declared.area_name.AreaName.TheVariants as area
use Rattle.run_meaning.specs.Machine.{went, ended, Stand, going, over, Run, at_start, onward, after}
use Rattle.run_meaning.specs.Event.{Event}
use Rattle.bam_meaning.specs.Instruction.{Instruction}
use Rattle.bam_meaning.specs.Choice.{choice_need, env_need}
use Rattle.bam_meaning.specs.State.{State}
use Rattle.bam_meaning.specs.Step.{Ending, MachineStep, step}
use Rattle.bam_meaning.specs.Limited.{Stop, finished, out_of_steps, out_of_area, Budgeted, counted, limited}

-- the run itself is on its way or over as the one under limits is, unless a limit stopped that
abbrev pub StandsAs : Stand Stop Budgeted → Stand Ending State → Type 0
StandsAs (going b) stand = stand ≡ going b.state
StandsAs (over (finished ending)) stand = stand ≡ over ending
StandsAs (over out_of_steps) stand = Unit {0}
StandsAs (over (out_of_area name)) stand = Unit {0}

-- a number of the run's own steps with the same events
pub record AgreesBy (image : List Instruction) (s : State) (r : Run (Event (Unit {0})) Stop Budgeted) : Type 0 where
  pub m : ℕ
  pub events : (after (step image) m s).events ≡ r.events
  pub stands : StandsAs r.stand (after (step image) m s).stand

module _ (limits : Limits) (image : List Instruction) where
  agrees_onward : (s next : State) (events : List (Event (Unit {0}))) (work : ℕ) (r : Run (Event (Unit {0})) Stop Budgeted) → step image s ≡ went events work next → AgreesBy image next r → AgreesBy image s (record { events = events ++ r.events; work = work + r.work; stand = r.stand })
  agrees_onward s next events work r does rest =
      let is : after (step image) (suc rest.m) s ≡ record { events = events ++ (after (step image) rest.m next).events; work = work + (after (step image) rest.m next).work; stand = (after (step image) rest.m next).stand } = ap (λ (t : MachineStep). onward (after (step image) rest.m) t) does in
      record {
        m = suc rest.m;
        events = ap (λ (l : Run (Event (Unit {0})) Ending State). l.events) is ∙ ap (λ (l : List (Event (Unit {0}))). events ++ l) rest.events;
        stands = subst (StandsAs r.stand) (sym (ap (λ (l : Run (Event (Unit {0})) Ending State). l.stand) is)) rest.stands;
      }

  agrees_fits : (n : ℕ) (env choice : Bool) (s next : State) (left work : ℕ) (events : List (Event (Unit {0}))) → step image s ≡ went events work next → AgreesBy image next (after (limited limits image) n (record { left = left; state = next })) → AgreesBy image s (onward (after (limited limits image) n) (cond env (cond choice (went events work (record { left = left; state = next })) (ended [] work (out_of_area area.Choice))) (ended [] work (out_of_area area.Env))))
  agrees_fits n true true s next left work events does rest = agrees_onward s next events work _ does rest
  agrees_fits n true false s next left work events does rest = record { m = 0; events = refl; stands = tt }
  agrees_fits n false choice s next left work events does rest = record { m = 0; events = refl; stands = tt }

  agrees_counted : (n left : ℕ) (s : State) (taken : MachineStep) → step image s ≡ taken → ((next : State) → AgreesBy image next (after (limited limits image) n (record { left = left; state = next }))) → AgreesBy image s (onward (after (limited limits image) n) (counted limits left taken))
  agrees_counted n left s (went events work next) does rest =
      agrees_fits n (leb (env_need next.frames next.choices) limits.env) (leb (choice_need next.choices) limits.choice) s next left work events does (rest next)
  agrees_counted n left s (ended events work ending) does rest =
      let is : after (step image) 1 s ≡ record { events = events; work = work; stand = over ending } = ap (λ (t : MachineStep). onward (λ (u : State). at_start u) t) does in
      record {
        m = 1;
        events = ap (λ (l : Run (Event (Unit {0})) Ending State). l.events) is;
        stands = ap (λ (l : Run (Event (Unit {0})) Ending State). l.stand) is;
      }

  -- some number of the run's own steps has the events of n steps under limits, and is over by itself where that is
  pub agrees : (n left : ℕ) (s : State) → AgreesBy image s (after (limited limits image) n (record { left = left; state = s }))
  agrees zero left s = record { m = 0; events = refl; stands = refl }
  agrees (suc n) zero s = record { m = 0; events = refl; stands = tt }
  agrees (suc n) (suc left) s =
      agrees_counted n left s (step image s) refl (λ next. agrees n left next)
