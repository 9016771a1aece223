use Rattle.std.proofs.Common.{map}
use Rattle.std.specs.String.{string_bytes}
use Rattle.aquarius_top.proofs.top.aquarius.Goals as goal

pub returns-in-Ok-clause-done : goal.returns-in-Ok-clause-done
returns-in-Ok-clause-done g c = λ reply.
    let known = c.in-Ok.ensures.task in
    (known.0, known.1, c.perform.ensures.done (map string_bytes c.args.words.now) known.0 known.2 reply)

pub returns-in-Ok-clause-write : goal.returns-in-Ok-clause-write
returns-in-Ok-clause-write g c = λ fault.
    let known = c.in-Ok.ensures.task in
    let wrote = c.perform.ensures.write fault in
    (wrote.0, (known.0, known.1, wrote.1 (map string_bytes c.args.words.now) known.0 known.2))
