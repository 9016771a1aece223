use Rattle.std.proofs.Common.{◌≤◌, ◌<◌, arith}
use Rattle.aq_term.specs.declared.term.Term.TheVariants as term
use Rattle.kernel_form.proofs.Below.{terms_below_push, variable_below}
use Rattle.kernel_form.proofs.clause_form.ClauseForm.with_barrier.Goals as goal

pub returns-clause-below : goal.returns-clause-below
returns-clause-below c =
    let n = c.numbers.new.self in
    let own = c.in-Some.own in
    let before = rw c.in-Some.is at c.requires in
    let below : own < n = omega (arith, before, c.in_ok-arguments.ensures.grows) in
    let same : n ≤ n = omega arith in
    rw (c.from_vec-2.ensures, c.in_ok-push.ensures.items)
    (terms_below_push n n c.in_ok-arguments.arguments.items (term.Var own) same c.in_ok-arguments.ensures.below (variable_below n own below))
