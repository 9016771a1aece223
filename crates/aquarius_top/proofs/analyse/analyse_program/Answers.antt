use Rattle.std.proofs.Common.{rules}
use Rattle.aquarius_top.proofs.FrontRows.{program_fault}
use Rattle.aquarius_top.proofs.analyse.analyse_program.Goals as goal

pub returns-in_err-read-clause-refused : goal.returns-in_err-read-clause-refused
returns-in_err-read-clause-refused c =
    let refused = program_fault c.in_err-read.field-0.0 c.args.text.now (λ query. c.in_err-read.ensures.refused query) in
    search (rules, refused)
