use Rattle.std.proofs.Common.{◌-◌, arith}
use Rattle.machine_store.proofs.FrontLemmas.{front_is_set, front_taken_length, held_popped}
use Rattle.machine_store.proofs.area.Area.pop.Goals as goal

pub get-requires : goal.get-requires
get-requires c =
    front_is_set c.self.inside.count c.self.inside.places (c.self.inside.count - 1) (omega (arith, c.self.invariant.0, c.if-self-eq0.false))

pub invariant_of-self : goal.invariant_of-self
invariant_of-self c =
    (front_taken_length c.self.inside.count (c.self.inside.count - 1) c.self.inside.places (omega arith) c.self.invariant.0, c.self.invariant.1)

pub returns-clause-some : goal.returns-clause-some
returns-clause-some c =
    held_popped c.self.inside.count c.self.inside.places c.get.result c.args.self.now c.self.view_is (omega (arith, c.if-self-eq0.false)) c.self.invariant.0 c.get.ensures
