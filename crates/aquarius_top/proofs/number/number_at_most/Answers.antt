use Rattle.std.proofs.Common.{◌<◌, sym, ap, ◌∙◌, arith, drop}
use Rattle.aquarius_top.specs.Number as spec
use Rattle.aquarius_top.proofs.Numbers.{stays_past}
use Rattle.aquarius_top.proofs.number.number_at_most.Goals as goal

pub returns-then-value-most-clause-number : goal.returns-then-value-most-clause-number
returns-then-value-most-clause-number c =
    let past : c.args.most < c.loop-byte.value = omega arith in
    sym (ap (spec.at_most c.args.most) c.loop-byte.invariant.reads
    ∙ stays_past c.args.most c.loop-byte.value (drop c.loop-byte.byte-index c.in_ok-first.rest.now) past)
