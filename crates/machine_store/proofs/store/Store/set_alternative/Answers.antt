use Rattle.std.proofs.Common.{◌≡◌, ◌∷◌, ap, ◌∙◌, refl}
use Rattle.machine_store.specs.Areas.{Areas}
use Rattle.machine_store.specs.Stands.{choice_area}
use Rattle.machine_store.proofs.StandsLemmas.{retargeted}
use Rattle.machine_store.proofs.store.Store.set_alternative.Goals as goal

pub returns-clause-ok : goal.returns-clause-ok
returns-clause-ok c = λ place choice frames choices word standing.
    let is : c.self.inside.choice.words ≡ choice_area (choice ∷ choices) = ap (λ (a : Areas). a.choice) c.self.view_is ∙ standing.choice_is in
    let changed = retargeted _ place choice choices is in
    rw (c.set.ensures, c.len-at.ensures.len, word, changed, ← c.self.view_is) refl
