use Rattle.std.proofs.Common.{arith}
use Rattle.bam_machine.proofs.engine.Engine.restore.Goals as goal

pub returns-in-Ok-clause-restores : goal.returns-in-Ok-clause-restores
returns-in-Ok-clause-restores c = (_, _, c.in-Ok.ensures.restores)

pub returns-in-Err-clause-there : goal.returns-in-Err-clause-there
returns-in-Err-clause-there c = λ has. c.in-Err.ensures.there (record {
  choice = has.choice;
  frames = has.frames;
  choices = has.choices;
  stands = has.stands;
  within = (let none = has.within in omega arith);
})
