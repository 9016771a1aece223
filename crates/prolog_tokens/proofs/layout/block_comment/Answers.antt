use Rattle.prolog_tokens.proofs.LayoutLemmas.{block_none}
use Rattle.prolog_tokens.proofs.layout.block_comment.Goals as goal

pub returns-clause-none : goal.returns-clause-none
returns-clause-none c =
    rw c.then_some.ensures (block_none _ _ _ _ c.is_text.ensures c.in_ok-end.ensures.found)
