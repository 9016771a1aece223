use Rattle.source_meaning.specs.RuleProgram.{program_of}
use Rattle.aquarius_top.proofs.Images.{image_of_code}
use Rattle.aquarius_top.proofs.plan.image_of.Goals as goal

pub returns-in-Ok : goal.returns-in-Ok
returns-in-Ok c =
    image_of_code c.in_ok-atoms.atoms c.compile.new.atoms (program_of c.args.program.now) c.in-Ok.code c.in_ok-link_whole-in-Ok.field-0
    c.in_ok-atoms.ensures c.in-Ok.ensures.table c.in-Ok.ensures.compiled c.in_ok-link_whole-in-Ok.ensures
