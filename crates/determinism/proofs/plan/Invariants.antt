use Rattle.std.proofs.Common.{◌≡◌, length}
use Rattle.determinism.specs.Plans.{ArePlans}
use Rattle.determinism.proofs.plan.Given as goal

abbrev pub invariant-loop-place : goal.invariant-loop-place
invariant-loop-place l = record {
  len : length l.plans.items ≡ l.place;
  plans : ArePlans l.predicates l.facts l.plans.items;
}
