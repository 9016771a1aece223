use Rattle.std.proofs.Common.{◌-◌, ◌≤◌, length}
use Rattle.std.specs.Prelude.{All}
use Rattle.prolog_tokens.specs.Scan.{AreTokens, IsNoEnd}
use Rattle.prolog_tokens.proofs.scan.next_clause.Given as goal

abbrev pub invariant-loop-tokens : goal.invariant-loop-tokens
invariant-loop-tokens l = record {
  are : AreTokens l.text l.at l.tokens l.end;
  no_end : All IsNoEnd l.tokens;
  high : l.end ≤ length l.text;
}

abbrev pub decreases-loop-tokens : goal.decreases-loop-tokens
decreases-loop-tokens l = length l.text - l.end
