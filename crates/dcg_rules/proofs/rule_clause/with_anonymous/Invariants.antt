use Rattle.std.proofs.Common.{◌≡◌, ◌-◌, ◌++◌, take, length, replicate, codes}
use Rattle.dcg_rules.proofs.rule_clause.with_anonymous.Given as goal

abbrev pub invariant-loop-name : goal.invariant-loop-name
invariant-loop-name l = l.all ≡ take l.name-index l.names

abbrev pub invariant-loop-number : goal.invariant-loop-number
invariant-loop-number l = l.all ≡ l.names ++ replicate (l.number - length l.names) (codes "_")
