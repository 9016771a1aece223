use Rattle.std.proofs.Common.{◌≡◌, ◌+◌, Ok, pos, refl, ap, arith}
use Rattle.machine_terms.proofs.functor.new_term.Goals as goal

pub returns-then-arity-eq0-clause-visits : goal.returns-then-arity-eq0-clause-visits
returns-then-arity-eq0-clause-visits c = λ count leads.
    let is : count.value ≡ c.in_ok-arity-2.arity = c.in_ok-arity.ensures count (pos c.in_ok-arity-2.arity) leads (ap Ok c.in_ok-arity-2.ensures) in
    omega (arith, is, c.if-arity-eq0.true)

pub returns-clause-visits : goal.returns-clause-visits
returns-clause-visits c = λ count leads.
    let is : count.value ≡ c.in_ok-arity-2.arity = c.in_ok-arity.ensures count (pos c.in_ok-arity-2.arity) leads (ap Ok c.in_ok-arity-2.ensures) in
    let counted : c.visit_each.new.left + c.in_ok-arity-2.arity ≡ c.args.left.now = c.in_ok-visit_each.ensures.counted refl in
    omega (arith, is, counted)
