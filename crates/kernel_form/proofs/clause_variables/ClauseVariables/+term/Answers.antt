use Rattle.std.proofs.Common.{rules}
use Rattle.kernel_form.proofs.Below.{compound_below, terms_below_push}
use Rattle.kernel_form.proofs.clause_variables.ClauseVariables.+term.Goals as goal

pub loop-argument-preserved : goal.loop-argument-preserved
loop-argument-preserved t c = record {
  below =
      rw c.in_ok-push-in-Compound.ensures.items
      (terms_below_push c.loop-argument.self c.term.new.self c.loop-argument.copies.items c.in_ok-term-in-Compound.field-0
      c.in_ok-term-in-Compound.ensures.grows c.loop-argument.invariant.below c.in_ok-term-in-Compound.ensures.below);
  grows = search rules;
}

pub returns-after-loop-argument-clause-below : goal.returns-after-loop-argument-clause-below
returns-after-loop-argument-clause-below t c =
    rw c.from_vec.ensures (compound_below _ _ _ c.loop-argument.invariant.below)
