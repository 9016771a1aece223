use Rattle.std.proofs.Common.{◌∙◌, sym, arith}
use Rattle.source_program.proofs.LimitRows.{kept_none, kept_more, passes_limit}
use Rattle.source_program.proofs.gathering.test_limits.Goals as goal

pub loop-named-init : goal.loop-named-init
loop-named-init c = rw c.new-limits.ensures (record { kept = kept_none; low = omega arith })

pub returns-in-Some-clause-refused : goal.returns-in-Some-clause-refused
returns-in-Some-clause-refused c =
    passes_limit _ _ _ c.named-item.result c.in_ok-kind.ensures.counts.0 _ c.loop-named-test.true c.named-item.is
    c.loop-named.invariant.kept c.in_ok-kind.ensures.counts.1 (sym c.in-Some.is ∙ c.in_ok-kind.ensures.counts.2)

pub loop-named-preserved : goal.loop-named-preserved
loop-named-preserved c =
    rw (c.in_ok-kind.ensures.counts.3 c.in_default.is)
    (record {
      kept = kept_more _ _ _ c.named-item.result c.in_ok-kind.ensures.counts.0 c.loop-named-test.true c.named-item.is
          c.loop-named.invariant.kept c.in_ok-kind.ensures.counts.1 (sym c.in_default.is ∙ c.in_ok-kind.ensures.counts.2);
      low = rw (← c.in_ok-kind.ensures.counts.3 c.in_default.is) (c.in_ok-kind.ensures.low c.in_default.is);
    })
