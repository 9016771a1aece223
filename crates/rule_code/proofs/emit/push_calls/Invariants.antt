use Rattle.std.proofs.Common.{◌≡◌, ◌++◌, drop}
use Rattle.rule_code.specs.CodeOf.{calls_lines}
use Rattle.rule_code.proofs.emit.push_calls.Given as goal

abbrev pub invariant-loop-next : goal.invariant-loop-next
invariant-loop-next l =
    l.lines.items ++ calls_lines l.goal (drop l.next-index l.rest) ≡ l.fn.lines.items ++ calls_lines l.fn.first l.rest
