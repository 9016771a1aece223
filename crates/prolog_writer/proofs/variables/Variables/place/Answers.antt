use Rattle.std.proofs.Common.{◌==◌}
use Rattle.prolog_writer.proofs.Places.{missing}
use Rattle.prolog_writer.proofs.variables.Variables.place.Goals as goal

pub returns-in-None : goal.returns-in-None
returns-in-None c =
    rw (← c.self.view_is, missing (λ w. c.args.number == w) c.self.inside.numbers.keys c.in-None.ensures.found) c.len.ensures.len
