use Rattle.kernel_form.proofs.Below.{terms_below_more}
use Rattle.kernel_form.proofs.clause_form.ClauseForm.catch.Goals as goal

pub returns-clause-below : goal.returns-clause-below
returns-clause-below c =
    rw (c.from_vec.ensures, c.from_vec-2.ensures)
    (terms_below_more _ _ _ c.in_ok-others.ensures.grows c.in_ok-arguments.ensures.below, c.in_ok-others.ensures.below)
