use Rattle.std.proofs.Common.{◌≡◌, ◌+◌, ◌<◌, length, ap, ◌∙◌, arith, refl}
use Rattle.std.proofs.lemmas.List.{length-set}
use Rattle.std.specs.Prelude.{List, Option, Some}
use Rattle.tag_word.specs.Tagged.{Tagged}
use Rattle.machine_store.proofs.FrontLemmas.{front_pushed_length, held_pushed, held_room}
use Rattle.machine_store.specs.Front.{front}
use Rattle.machine_store.proofs.area.Area.push.Goals as goal

pub invariant_of-self : goal.invariant_of-self
invariant_of-self c =
    let n = c.self.inside.count in let places = c.self.inside.places in
    let room : n < length places = held_room n places c.args.self.now c.self.view_is c.self.invariant.0 c.requires in
    let same : length c.set.new.self ≡ length places = ap length c.set.ensures ∙ length-set places n (Some c.args.word) in
    (ap (λ (ws : List (Option Tagged)). length (front (n + 1) ws)) c.set.ensures ∙ front_pushed_length n (n + 1) places c.args.word refl c.self.invariant.0 room, omega (arith, same, c.self.invariant.1))

pub returns : goal.returns
returns c =
    let n = c.self.inside.count in let places = c.self.inside.places in
    held_pushed n places c.set.new.self c.args.word c.args.self.now c.self.view_is c.self.invariant.0 c.set.ensures (held_room n places c.args.self.now c.self.view_is c.self.invariant.0 c.requires)
