use Rattle.std.proofs.Common.{subst}
use Rattle.aquarius_top.specs.AnalyseReply.{AnalyseReply, IsProgramRefusal}
use Rattle.aquarius_top.specs.FrontFault.{IsFaultBy}
use Rattle.aquarius_top.proofs.top.analyse_task.Goals as goal

pub returns-in-Err-Refused : goal.returns-in-Err-Refused
returns-in-Err-Refused c =
    AnalyseReply.refused c.requires c.in-Err-Refused.cause
    (subst (IsFaultBy (IsProgramRefusal c.args.text.now)) c.in-Err-Refused.field-0-is c.in-Err-Refused.ensures.refused)
