use Rattle.std.proofs.Common.{rules}
use Rattle.aquarius_top.specs.FrontRefusal.{FrontRefuses, IsProgramText}
use Rattle.aquarius_top.specs.FrontFault.{IsFaultBy, front_of}
use Rattle.aquarius_top.proofs.FrontRows.{program_refused}
use Rattle.aquarius_top.proofs.front.accept_program.Goals as goal

pub returns-in_err-clauses-clause-refused : goal.returns-in_err-clauses-clause-refused
returns-in_err-clauses-clause-refused c = λ query.
    let refused = c.in_err-clauses.ensures.refused query in search (rules, refused)

pub returns-in_err-program-clause-refused : goal.returns-in_err-program-clause-refused
returns-in_err-program-clause-refused c = λ query.
    let refused : IsFaultBy (FrontRefuses c.args.text.now query) (front_of c.in_err-program.field-0.0) =
    program_refused _ _ query _ c.in_ok-clauses.ensures.read c.in_err-program.ensures.refused in
    search (rules, refused)
