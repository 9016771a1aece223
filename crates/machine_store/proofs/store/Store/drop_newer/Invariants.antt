use Rattle.machine_store.specs.Areas.{SameTerms}
use Rattle.machine_store.proofs.store.Store.drop_newer.Given as goal

abbrev pub invariant-loop-self : goal.invariant-loop-self
invariant-loop-self l = SameTerms l.fn.self l.self

abbrev pub decreases-loop-self : goal.decreases-loop-self
decreases-loop-self l = l.self.count
