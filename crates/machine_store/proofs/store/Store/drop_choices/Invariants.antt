use Rattle.std.proofs.Common.{◌≤◌, min}
use Rattle.machine_store.specs.Areas.{SameTerms}
use Rattle.machine_store.specs.Stands.{IsStore}
use Rattle.machine_store.proofs.StandsLemmas.{DroppingTo}
use Rattle.machine_store.proofs.store.Store.drop_choices.Given as goal

abbrev pub invariant-loop-self : goal.invariant-loop-self
invariant-loop-self l =
    (IsStore l.fn.self → DroppingTo l.to l.fn.self l.self) × SameTerms l.fn.self l.self × (min l.fn.self.count l.to ≤ l.self.count) × (l.self.count ≤ l.fn.self.count)

abbrev pub decreases-loop-self : goal.decreases-loop-self
decreases-loop-self l = l.self.count
