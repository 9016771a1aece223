use Rattle.std.proofs.Common.{◌≡◌, ◌++◌, drop}
use Rattle.rule_code.specs.CodeOf.{later_lines}
use Rattle.rule_code.proofs.emit.push_later.Given as goal

abbrev pub invariant-loop-next : goal.invariant-loop-next
invariant-loop-next l =
    l.lines.items ++ later_lines l.number l.body (drop l.next-index l.rest) ≡ l.fn.lines.items ++ later_lines 0 l.fn.first l.rest
