use Rattle.std.proofs.Common.{◌≡◌, length, ap, arith}
use Rattle.machine_store.specs.Held.{Held}
use Rattle.machine_store.specs.Front.{front}
use Rattle.machine_store.proofs.FrontLemmas.{front_is_set}
use Rattle.machine_store.proofs.area.Area.get.Goals as goal

pub get-requires : goal.get-requires
get-requires c =
    let count : length (front c.self.inside.count c.self.inside.places) ≡ length c.args.self.now.words = ap (λ (h : Held). length h.words) c.self.view_is in
    front_is_set c.self.inside.count c.self.inside.places c.args.index (omega (arith, count, c.requires))
