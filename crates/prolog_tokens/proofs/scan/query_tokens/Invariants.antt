use Rattle.std.proofs.Common.{◌-◌, ◌≤◌, length}
use Rattle.prolog_tokens.specs.Scan.{AreTokens}
use Rattle.prolog_tokens.proofs.scan.query_tokens.Given as goal

abbrev pub invariant-loop-tokens : goal.invariant-loop-tokens
invariant-loop-tokens l = record { are : AreTokens l.text 0 l.tokens l.end; high : l.end ≤ length l.text }

abbrev pub decreases-loop-tokens : goal.decreases-loop-tokens
decreases-loop-tokens l = length l.text - l.end
