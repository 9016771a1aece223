use Rattle.prolog_tokens.specs.Layout.{Gap}
use Rattle.prolog_tokens.proofs.LayoutLemmas.{gap_step, step_high}
use Rattle.prolog_tokens.proofs.layout.skip_layout.Goals as goal

pub loop-at-init : goal.loop-at-init
loop-at-init c = record { gap = Gap.start; high = c.requires }

pub loop-at-preserved : goal.loop-at-preserved
loop-at-preserved c = record {
  gap = gap_step _ _ c.loop-at.invariant.gap c.loop-at-test.true c.in_ok-end.ensures.found;
  high = step_high _ _ c.loop-at-test.true c.in_ok-end.ensures.found;
}
