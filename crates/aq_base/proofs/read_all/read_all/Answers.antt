use Rattle.std.proofs.Common.{◌≡◌, ◌≤◌, take, length, ◌++◌, ◌+◌, arith, length-take, length-append}
use Rattle.aq_base.proofs.KnownBytes.{Consumes-more}
use Rattle.aq_base.proofs.read_all.read_all.Goals as goal

pub returns-then-most-len-clause-too_long : goal.returns-then-most-len-clause-too_long
returns-then-most-len-clause-too_long g c _ =
    let within = c.in_ok-count.ensures.within in
    let whole = length-append c.loop-bytes.bytes.items (take c.in_ok-count.count c.read.new.buffer) in
    let piece = length-take c.in_ok-count.count c.read.new.buffer in (
      c.loop-bytes.bytes.items ++ take c.in_ok-count.count c.read.new.buffer,
      Consumes-more _ _ _ _ _ c.loop-bytes.invariant.so_far c.in_ok-count.ensures.bytes.0,
      omega arith,
    )
