use Rattle.aquarius_top.proofs.OneReply.{one_reply}
use Rattle.aquarius_top.proofs.laws.replies_are_one.Goals as goal

pub returns : goal.returns
returns c = one_reply
