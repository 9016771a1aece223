use Rattle.std.proofs.Common.{◌≤◌, take}
use Rattle.source_program.proofs.LimitRows.{Kept}
use Rattle.source_program.proofs.gathering.test_limits.Given as goal

abbrev pub invariant-loop-named : goal.invariant-loop-named
invariant-loop-named l = record {
  kept : Kept (take l.named-index l.clauses) l.limits.total;
  low : l.limits.total ≤ 16777216;
}
