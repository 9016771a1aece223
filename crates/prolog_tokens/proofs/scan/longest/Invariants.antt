use Rattle.std.proofs.Common.{◌<◌, ◌≤◌, IfSome}
use Rattle.prolog_tokens.proofs.scan.longest.Given as goal

abbrev pub invariant-loop-i : goal.invariant-loop-i
invariant-loop-i l = IfSome l.best (λ x. (0 < x.len) × (x.len ≤ l.i))
