use Rattle.std.proofs.Common.{subst}
use Rattle.aquarius_top.specs.CodeReply.{JoinReply, IsCodeFault}
use Rattle.aquarius_top.proofs.top.join_task.Goals as goal

pub returns-in-Err-Refused : goal.returns-in-Err-Refused
returns-in-Err-Refused c =
    JoinReply.refused c.requires c.in-Err-Refused.cause (subst IsCodeFault c.in-Err-Refused.field-0-is c.in-Err-Refused.ensures.refused)
