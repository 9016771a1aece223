use Rattle.std.proofs.Common.{◌≡◌, true, false, map, refl}
use Rattle.term_meaning.specs.Plain.{is_ground, are_ground, plains}
use Rattle.aq_term.specs.PlainOf.{plain}
use Rattle.aq_term.proofs.TermFolds.{are_ground-take-suc, are_ground-some_false}
use Rattle.aq_term.proofs.+is_ground.Goals as goal

pub args::Args::are_ground-returns-then-not-is_ground :
    goal.args::Args::are_ground-returns-then-not-is_ground
args::Args::are_ground-returns-then-not-is_ground t c =
    let is : is_ground (plain c.term-item.result) ≡ false = cc in
    let all : are_ground (plains (map plain c.as_slice-term-items.result.now)) ≡ false =
    are_ground-some_false c.as_slice-term-items.result.now c.loop-term.term-index c.term-item.result c.loop-term-test.true c.term-item.is is in
    rw (← c.self.view_is, ← c.as_slice-term-items.ensures.value, all) refl

pub args::Args::are_ground-loop-term-preserved : goal.args::Args::are_ground-loop-term-preserved
args::Args::are_ground-loop-term-preserved t c =
    let is : is_ground (plain c.term-item.result) ≡ true = cc in
    are_ground-take-suc c.as_slice-term-items.result.now c.loop-term.term-index c.term-item.result c.loop-term-test.true c.term-item.is is c.loop-term.invariant
