use Rattle.std.proofs.Common.{◌≡◌, ◌-◌, length, Some, sym, subst, ◌∙◌}
use Rattle.std.specs.List.{slice_get}
use Rattle.tag_word.specs.declared.tag.Tag.TheVariants as tag
use Rattle.machine_store.specs.Stands.{IsStore}
use Rattle.machine_store.specs.contracts.store.Store.{the_view}
use Rattle.machine_store.proofs.CatcherLemmas.{no_catcher_newest}
use Rattle.machine_store.proofs.store.Store.newest_catches.Goals as goal

pub returns-in-Bar : goal.returns-in-Bar
returns-in-Bar c = λ is.
    let store : IsStore (the_view c.self.inside) = subst IsStore (sym c.self.view_is) is in
    let found : slice_get c.self.inside.choice.words (length c.self.inside.choice.words - 2) ≡ Some c.get-link.result = rw c.len.ensures.len at c.get-link.ensures in
    let frame : c.get-link.result.tag ≡ tag.Frm = no_catcher_newest (the_view c.self.inside) c.get-link.result store (λ none. c.if-self-eq0.false none) found in
    let catcher : c.get-link.result.tag ≡ tag.Bar = sym c.tag.ensures ∙ c.in-Bar.is in
    let no : ⊥ = cc in
    absurd no
