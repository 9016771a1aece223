use Rattle.std.proofs.Common.{◌≡◌, length}
use Rattle.answer_io.proofs.layout.Layout.own_words.Given as goal

abbrev pub invariant-loop-argument : goal.invariant-loop-argument
invariant-loop-argument l = length l.self.cells.items ≡ length l.fn.self.cells.items
