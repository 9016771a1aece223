use Rattle.std.proofs.Common.{◌≡◌, take, drop, length, ◌++◌, ◌+◌, arith, length-take, length-drop}
use Rattle.std.proofs.lemmas.List.{take-append-drop, drop-drop, take_at, take_rest}
use Rattle.aq_base.proofs.piece.give_piece.Goals as goal

pub returns-clause-given : goal.returns-clause-given
returns-clause-given c =
    let copied = rw (take_rest c.args.bytes.now c.args.at) at c.copy_from_slice.ensures.after in
    let room = simp length-take at c.copy_from_slice.ensures.len in
    let filled : length c.copy_from_slice.new.self ≡ c.min-count.result = omega arith in
    let front = take_at c.copy_from_slice.new.self (drop c.min-count.result c.args.buffer.now) c.min-count.result filled in
    let halves = take-append-drop c.min-count.result (drop c.args.at c.args.bytes.now) in
    let rest = drop-drop c.min-count.result c.args.at c.args.bytes.now in
    cc
