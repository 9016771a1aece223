use Rattle.aquarius_top.specs.FrontFault.{IsStop}
use Rattle.aquarius_top.proofs.front.clause_at.Goals as goal

pub returns-in-Err-At-clause-refused : goal.returns-in-Err-At-clause-refused
returns-in-Err-At-clause-refused c = IsStop.stop c.in-Err-At.at (rw c.in-Err-At.field-0-is at c.in-Err-At.ensures.fault)
