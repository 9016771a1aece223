use Rattle.std.proofs.Common.{subst}
use Rattle.aquarius_top.specs.CodeReply.{VerifyReply, IsVerifyFault}
use Rattle.aquarius_top.proofs.top.verify_task.Goals as goal

pub returns-in-Err-Refused : goal.returns-in-Err-Refused
returns-in-Err-Refused c =
    VerifyReply.refused c.requires c.in-Err-Refused.cause (subst (IsVerifyFault c.args.text.now) c.in-Err-Refused.field-0-is c.in-Err-Refused.ensures)
