use Rattle.std.proofs.Common.{rules}
use Rattle.aq_base.specs.declared.refusal.Refusal.TheVariants as refusal
use Rattle.aquarius_top.specs.BamReply.{IsBamRefusal, IsProgram}
use Rattle.aquarius_top.proofs.FrontRows.{bam_fault}
use Rattle.aquarius_top.proofs.compiled.print_program.Goals as goal

pub returns-in_err-read-clause-refused : goal.returns-in_err-read-clause-refused
returns-in_err-read-clause-refused c =
    let refused = bam_fault c.in_err-read.field-0.0 c.args.text.now (λ query. c.in_err-read.ensures.refused query) in
    search (rules, refused)

pub returns-in-Err-Unsupported-clause-refused : goal.returns-in-Err-Unsupported-clause-refused
returns-in-Err-Unsupported-clause-refused c =
    let program : IsProgram c.args.text.now = (_, c.in_ok-read.ensures.program) in
    let refused : IsBamRefusal c.args.text.now refusal.Unsupported = IsBamRefusal.unsupported program in
    search (rules, refused)
