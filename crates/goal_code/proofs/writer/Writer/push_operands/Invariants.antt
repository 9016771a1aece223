use Rattle.std.proofs.Common.{◌≡◌, ◌++◌, drop}
use Rattle.goal_code.specs.Passed.{operands_for}
use Rattle.goal_code.proofs.writer.Writer.push_operands.Given as goal

abbrev pub invariant-loop-number : goal.invariant-loop-number
invariant-loop-number l =
    l.operands.items ++ operands_for l.self.picture.places (drop l.number l.arguments) (drop l.number l.successes)
    ≡ l.fn.operands.items ++ operands_for l.self.picture.places l.arguments l.successes
