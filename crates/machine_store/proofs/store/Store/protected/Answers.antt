use Rattle.std.proofs.Common.{◌≢◌, length, ap, ◌∙◌}
use Rattle.machine_store.specs.Areas.{Areas, index_word}
use Rattle.bam_meaning.specs.Choice.{protected}
use Rattle.machine_store.proofs.StandsLemmas.{protected_there}
use Rattle.machine_store.proofs.store.Store.protected.Goals as goal

pub returns : goal.returns
returns c = λ choices is count.
    let some : length choices ≢ 0 = λ none. c.if-self-eq0.false (ap (λ (a : Areas). a.count) c.self.view_is ∙ count ∙ none) in
    c.value_at.ensures (index_word (protected choices)) (rw c.len.ensures.len (protected_there c.self.inside.choice.words choices (ap (λ (a : Areas). a.choice) c.self.view_is ∙ is) some))
