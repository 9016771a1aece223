use Rattle.aquarius_top.specs.Chosen.{Chosen}
use Rattle.aquarius_top.specs.Reply.{refused}
use Rattle.aquarius_top.proofs.plan.plan_by_front.Goals as goal

pub returns-in-Err : goal.returns-in-Err
returns-in-Err c =
    let is = c.in_ok-cause-in-Err.ensures c.args.text.now c.args.query.now c.in-Err.ensures.refused in
    λ limits. refused c.requires.size c.requires.none c.in_ok-cause-in-Err.cause is

pub returns-in-None : goal.returns-in-None
returns-in-None c = (
  c.requires.none,
  record {
    short = c.requires.size;
    entries = c.in-Ok.accepted.program.entries;
    program = c.in-Ok.ensures.program;
    place = c.in-Ok.accepted.entry;
    entered = c.in-Ok.ensures.entered;
  },
)
