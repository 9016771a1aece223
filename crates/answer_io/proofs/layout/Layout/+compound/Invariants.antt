use Rattle.std.proofs.Common.{◌≡◌, length}
use Rattle.aq_term.specs.PlainOf.{plain}
use Rattle.term_meaning.specs.Plain.{nodes}
use Rattle.answer_io.proofs.layout.Layout.+compound.Given as goal

abbrev pub decreases-compound : goal.decreases-compound
decreases-compound l = nodes (plain l.term.now)

abbrev pub invariant-loop-argument : goal.invariant-loop-argument
invariant-loop-argument l = length l.self.cells.items ≡ length l.fn.self.cells.items
