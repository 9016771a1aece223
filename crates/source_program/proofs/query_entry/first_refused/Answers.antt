use Rattle.std.proofs.Common.{◌∙◌, inl, inr, sym, ⊎_elim}
use Rattle.source_program.proofs.CountLemmas.{none_refused}
use Rattle.source_program.proofs.query_entry.first_refused.Goals as goal

pub returns : goal.returns
returns c =
    sym (c.loop-argument.invariant.rest
    ∙ none_refused _ _ _ _ (⊎_elim (λ a. inl a.1.0) (λ b. inr b.1.0) c.in-None.ensures.steps))
