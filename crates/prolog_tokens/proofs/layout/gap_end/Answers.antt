use Rattle.prolog_tokens.specs.Opening.{Step}
use Rattle.prolog_tokens.proofs.LayoutLemmas.{line_step, block_step}
use Rattle.prolog_tokens.proofs.layout.gap_end.Goals as goal

pub returns-in-Blank-clause-found : goal.returns-in-Blank-clause-found
returns-in-Blank-clause-found c = Step.blank c.in-Blank.ensures

pub returns-in-LineComment-clause-found : goal.returns-in-LineComment-clause-found
returns-in-LineComment-clause-found c =
    rw c.ok_or.ensures.value (line_step _ _ _ _ c.line_comment.ensures.found)

pub returns-in-BlockComment-clause-found : goal.returns-in-BlockComment-clause-found
returns-in-BlockComment-clause-found c =
    rw c.ok_or-in-BlockComment.ensures.value (block_step _ _ _ _ c.block_comment.ensures.found)

pub returns-in-Other-clause-found : goal.returns-in-Other-clause-found
returns-in-Other-clause-found c = Step.nothing c.in-Other.ensures
