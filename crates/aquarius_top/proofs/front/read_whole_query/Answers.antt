use Rattle.std.proofs.Common.{arith}
use Rattle.aquarius_top.specs.FrontRefusal.{IsNoQuery}
use Rattle.aquarius_top.proofs.front.read_whole_query.Goals as goal

pub returns-in-Err-At-clause-refused : goal.returns-in-Err-At-clause-refused
returns-in-Err-At-clause-refused c same = IsNoQuery.tokens c.in-Err-At._at (rw c.in-Err-At.field-0-is at c.in-Err-At.ensures.fault)

pub returns : goal.returns
returns c = record { read = tt; refused = λ same. IsNoQuery.reading (omega arith) c.in-Ok.tokens c.in-Ok.ensures.found }
