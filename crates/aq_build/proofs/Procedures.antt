-- What is so of procedures that are cleaned, of which moves are coalesced, and which have other registers.
use Rattle.std.proofs.Common.{◌≡◌, ℕ, zero, suc, ◌+◌, ◌≤◌, List, [], ◌∷◌, Option, Some, None, length, refl, ap, subst, ◌∙◌, arith, sum_by}
use Rattle.std.proofs.lemmas.List.{length-map}
use Rattle.std.proofs.lemmas.List.Sums.{sum_by-cons}
use Rattle.std.specs.List.{All, AllZip}
use Rattle.std.specs.Prelude.{slice_get}
use Rattle.bam_code.specs.declared.procedure.Proc.{Proc}
use Rattle.bam_peephole.specs.Cleaned.{IsCleaned}
use Rattle.determinism.specs.Keys.{clause_key}
use Rattle.determinism.specs.Plans.{ArePlans, IsPlanOf, call_of, keys_for}
use Rattle.determinism.specs.declared.predicate_plan.Plan.{Plan}
use Rattle.flow_equations.specs.declared.predicate_facts.PredicateFacts.{PredicateFacts}
use Rattle.goal_code.specs.Procedures.{IsProcedure, IsProcedureOf}
use Rattle.goal_code.specs.StepCounts.{OnlyReturns, choices_at, ends_at, returns_at}
use Rattle.kernel_ir.specs.declared.kernel_predicate.KernelPredicate.{KernelPredicate}
use Rattle.unify_special.specs.Steps.{Step, steps_of, called, caught, failed, left, raised, retried, returned, tried, trusted, uncaught}
use Rattle.aq_build.specs.Built.{EndsByReturns, IsBuilt, IsBuiltOf}
use Rattle.aq_build.proofs.Finished.{IsFinished}
use Rattle.aq_build.proofs.FewerSteps.{less_cleaned}
use Rattle.aq_build.proofs.OnePlan.{one_det}

less_built : (count : Step → ℕ) (made cleaned built : Proc) → IsCleaned made cleaned → IsFinished cleaned built
    → sum_by count (steps_of built.lines) ≤ sum_by count (steps_of made.lines)
less_built count made cleaned built clean is =
    omega (arith, less_cleaned count made cleaned clean, ap (sum_by count) is.steps)

-- an end that is no return
abbrev strays_at : Step → ℕ
strays_at failed = 1
strays_at (left name) = 1
strays_at raised = 1
strays_at _ = 0

end_at : (step : Step) → ends_at step ≡ returns_at step + strays_at step
end_at failed = refl
end_at (called name) = refl
end_at (left name) = refl
end_at returned = refl
end_at raised = refl
end_at tried = refl
end_at retried = refl
end_at trusted = refl
end_at caught = refl
end_at uncaught = refl

strays : (steps : List Step) → sum_by ends_at steps ≡ sum_by returns_at steps + sum_by strays_at steps
strays [] = refl
strays (step ∷ steps) =
    omega (arith, sum_by-cons ends_at step steps, sum_by-cons returns_at step steps, sum_by-cons strays_at step steps, end_at step, strays steps)

ends_by_returns : (most : ℕ) (made cleaned built : Proc) → IsCleaned made cleaned → IsFinished cleaned built → OnlyReturns most [] made.lines → EndsByReturns most built.lines
ends_by_returns most made cleaned built clean is only =
    record {
      ends = omega (arith, less_built ends_at made cleaned built clean is, only.ends);
      returns =
          omega (arith, strays (steps_of made.lines), strays (steps_of built.lines), less_built strays_at made cleaned built clean is, only.ends, only.returns);
    }

keys_long : (p : KernelPredicate) (selected : Option ℕ) → length (keys_for p selected) ≡ length p.clauses
keys_long p None = length-map p.clauses (λ _. None)
keys_long p (Some i) = length-map p.clauses (clause_key i)

built_of : (p : KernelPredicate) (own : PredicateFacts) (plan : Plan) (made cleaned built : Proc) → IsPlanOf p own.call plan → IsProcedureOf p own plan made
    → IsCleaned made cleaned → IsFinished cleaned built → IsBuiltOf p own built
built_of p own plan made cleaned built planned of clean is =
    record {
      name = ap (λ s. s.name) (is.signature ∙ clean.signature) ∙ of.name;
      det = λ other also det.
          omega (arith, less_built choices_at made cleaned built clean is, of.det planned (one_det p own plan other planned also ∙ det));
      plain = λ plain.
          ends_by_returns (length p.clauses) made cleaned built clean is (of.plain (ap length planned.keys ∙ keys_long p plan.selected) plain);
    }

plan_at : (ps : List KernelPredicate) (fs : List PredicateFacts) (plans : List Plan) (i : ℕ) (p : KernelPredicate) (own : PredicateFacts) (plan : Plan)
    → ArePlans ps fs plans → slice_get ps i ≡ Some p → slice_get plans i ≡ Some plan → slice_get fs i ≡ Some own → IsPlanOf p own.call plan
plan_at ps fs plans i p own plan all p_is plan_is own_is =
    subst (λ call. IsPlanOf p call plan) (ap call_of own_is) (all i p plan p_is plan_is)

built_procedure : (ps : List KernelPredicate) (fs : List PredicateFacts) (plans : List Plan) (made cleaned after : Proc) → ArePlans ps fs plans
    → IsProcedure ps fs plans made → IsCleaned made cleaned → IsFinished cleaned after → IsBuilt ps fs after
built_procedure ps fs plans made cleaned after all at clean is =
    record {
      place = at.place;
      predicate = at.predicate;
      own = at.own;
      predicate_is = at.predicate_is;
      own_is = at.own_is;
      reached = at.reached;
      made =
          built_of at.predicate at.own at.plan made cleaned after
          (plan_at ps fs plans at.place at.predicate at.own at.plan all at.predicate_is at.plan_is at.own_is) at.made clean is;
    }

pub built_procedures : (ps : List KernelPredicate) (fs : List PredicateFacts) (plans : List Plan) (made cleaned after : List Proc) → ArePlans ps fs plans
    → All (IsProcedure ps fs plans) made → AllZip IsCleaned made cleaned → AllZip IsFinished cleaned after → All (IsBuilt ps fs) after
built_procedures ps fs plans [] [] [] are all clean is k d h = absurd (omega (arith, h))
built_procedures ps fs plans [] [] (z ∷ zs) are all clean is k d h = absurd is
built_procedures ps fs plans [] (y ∷ ys) after are all clean is k d h = absurd clean
built_procedures ps fs plans (x ∷ xs) [] after are all clean is k d h = absurd clean
built_procedures ps fs plans (x ∷ xs) (y ∷ ys) [] are all clean is k d h = absurd is
built_procedures ps fs plans (x ∷ xs) (y ∷ ys) (z ∷ zs) are all clean is zero d h =
    built_procedure ps fs plans x y z are (all zero x (omega arith)) clean.0 is.0
built_procedures ps fs plans (x ∷ xs) (y ∷ ys) (z ∷ zs) are all clean is (suc k) d h =
    built_procedures ps fs plans xs ys zs are (λ j e g. all (suc j) e (omega (arith, g))) clean.1 is.1 k d (omega (arith, h))
