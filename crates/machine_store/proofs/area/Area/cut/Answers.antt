use Rattle.std.proofs.Common.{arith}
use Rattle.machine_store.proofs.FrontLemmas.{front_taken_length, held_cut}
use Rattle.machine_store.proofs.area.Area.cut.Goals as goal

pub invariant_of-self : goal.invariant_of-self
invariant_of-self c =
    (front_taken_length c.self.inside.count c.args.index c.self.inside.places (omega (arith, c.if-index-self.true)) c.self.invariant.0, c.self.invariant.1)

pub returns-then-index-self : goal.returns-then-index-self
returns-then-index-self c =
    held_cut c.self.inside.count c.args.index c.self.inside.places c.args.self.now c.self.view_is (omega (arith, c.if-index-self.true))
