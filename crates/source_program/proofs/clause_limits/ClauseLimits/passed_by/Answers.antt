use Rattle.std.proofs.Common.{◌∙◌, sym, arith, refl}
use Rattle.source_program.specs.Limits.{Counts}
use Rattle.source_program.proofs.LimitLemmas.{many_arguments, capped_limit, told_total}
use Rattle.source_program.proofs.clause_limits.ClauseLimits.passed_by.Goals as goal

pub returns-then-clause-gt-MOST_ARGUMENTS-clause-counts : goal.returns-then-clause-gt-MOST_ARGUMENTS-clause-counts
returns-then-clause-gt-MOST_ARGUMENTS-clause-counts c =
    let counts : Counts = record {
      arguments = c.args.clause.now.most_arguments;
      kernel = record { branch = 0; variables = 0; slots = 0; nodes = 0; total = 0 };
    } in
    (counts, refl, many_arguments counts c.args.self.now.total c.if-clause-gt-MOST_ARGUMENTS.true, λ none. cc)

pub returns-clause-counts : goal.returns-clause-counts
returns-clause-counts c =
    let counts : Counts = record { arguments = c.args.clause.now.most_arguments; kernel = c.in_ok-counts.counts } in (
      counts,
      refl,
      c.passed.ensures ∙ capped_limit counts c.args.self.now.total c.saturating_add-self.result (omega arith) c.saturating_add-self.ensures,
      λ none. told_total c.in_ok-counts.counts _ _ c.saturating_add-self.ensures (sym c.passed.ensures ∙ none),
    )
