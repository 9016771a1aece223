use Rattle.std.proofs.Common.{◌≡◌, length, ap, ◌∙◌, arith}
use Rattle.std.proofs.lemmas.List.{length-set}
use Rattle.std.specs.Prelude.{Some}
use Rattle.machine_store.proofs.FrontLemmas.{front_set_length, held_set}
use Rattle.machine_store.proofs.area.Area.set.Goals as goal

pub invariant_of-self : goal.invariant_of-self
invariant_of-self c =
    let n = c.self.inside.count in let places = c.self.inside.places in
    let same : length c.set.new.self ≡ length places = ap length c.set.ensures ∙ length-set places c.args.index (Some c.args.word) in
    (front_set_length n places c.set.new.self c.args.index c.args.word c.args.self.now c.self.view_is c.requires c.self.invariant.0 c.set.ensures, omega (arith, same, c.self.invariant.1))

pub returns : goal.returns
returns c =
    held_set c.self.inside.count c.self.inside.places c.set.new.self c.args.index c.args.word c.args.self.now c.self.view_is c.requires c.set.ensures
