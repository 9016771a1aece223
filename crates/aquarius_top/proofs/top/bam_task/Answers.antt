use Rattle.std.proofs.Common.{subst}
use Rattle.aquarius_top.specs.BamReply.{BamReply, IsBamRefusal}
use Rattle.aquarius_top.specs.FrontFault.{IsFaultBy}
use Rattle.aquarius_top.proofs.top.bam_task.Goals as goal

pub returns-in-Err-Refused : goal.returns-in-Err-Refused
returns-in-Err-Refused c =
    BamReply.refused c.requires c.in-Err-Refused.cause
    (subst (IsFaultBy (IsBamRefusal c.args.text.now)) c.in-Err-Refused.field-0-is c.in-Err-Refused.ensures.refused)
