use Rattle.std.proofs.Common.{rules}
use Rattle.aquarius_top.specs.FrontRefusal.{FrontRefuses}
use Rattle.aquarius_top.specs.FrontFault.{IsFaultBy}
use Rattle.aquarius_top.proofs.FrontRows.{query_refused}
use Rattle.aquarius_top.proofs.front.accept.Goals as goal

pub returns-in_err-program-clause-refused : goal.returns-in_err-program-clause-refused
returns-in_err-program-clause-refused c =
    let refused = c.in_err-program.ensures.refused c.args.query.now in search (rules, refused)

pub returns-in_err-entry-clause-refused : goal.returns-in_err-entry-clause-refused
returns-in_err-entry-clause-refused c =
    let refused : IsFaultBy (FrontRefuses c.args.text.now c.args.query.now) c.in_err-entry.field-0.0 =
    query_refused _ _ _ _ c.in_ok-program.ensures.program c.in_err-entry.ensures.refused in
    search (rules, refused)
