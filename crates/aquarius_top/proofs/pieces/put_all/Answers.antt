use Rattle.std.proofs.Common.{◌≡◌, ◌+◌, ◌≤◌, ◌<◌, ◌++◌, ℕ, List, [], length, take, drop, get_or, sym, ap, subst, arith, rules}
use Rattle.std.specs.Borrow.{Bor}
use Rattle.std.specs.Io.KnownBytes.{Appends}
use Rattle.aq_base.proofs.KnownBytes.{Appends-more}
use Rattle.aquarius_top.specs.Ending.{joined}
use Rattle.aquarius_top.proofs.PieceLemmas.{piece_more, piece_between, front_taken}
use Rattle.aquarius_top.proofs.pieces.put_all.Goals as goal

abbrev nothing : Bor (List ℕ)
nothing = record { ref_ptr = (0, 0); now = [] }

pub returns-in_err-put-clause-front : goal.returns-in_err-put-clause-front
returns-in_err-put-clause-front g c =
    let pieces : List (Bor (List ℕ)) = c.args.pieces.now in
    let k : ℕ = c.loop-piece.piece-index in
    let there : k < length pieces = omega arith in
    let cut = c.in_err-put.ensures.prefix in
    let whole = piece_between pieces k nothing there in
    let taken = front_taken (g.K.Sink.taken c.args.sink.now) (g.K.Sink.taken c.loop-piece.sink) (g.K.Sink.taken c.put.new.sink) (joined (take k pieces)) (get_or pieces k nothing).now (joined (drop (k + 1) pieces)) cut.0 cut.1 c.loop-piece.invariant.taken cut.2 in
    let front : (m : ℕ) × (m ≤ length (joined pieces)) × Appends (g.K.Sink.taken c.args.sink.now) (g.K.Sink.taken c.put.new.sink) (take m (joined pieces)) =
    subst (λ (bytes : List ℕ). (m : ℕ) × (m ≤ length bytes) × Appends (g.K.Sink.taken c.args.sink.now) (g.K.Sink.taken c.put.new.sink) (take m bytes)) (sym whole) taken in
    search rules

pub loop-piece-preserved : goal.loop-piece-preserved
loop-piece-preserved g c =
    let pieces : List (Bor (List ℕ)) = c.args.pieces.now in
    let k : ℕ = c.loop-piece.piece-index in
    let there : k < length pieces = omega arith in
    record {
      taken = subst (Appends (g.K.Sink.taken c.args.sink.now) (g.K.Sink.taken c.put.new.sink)) (sym (piece_more pieces k nothing there)) (Appends-more (g.K.Sink.taken c.args.sink.now) (g.K.Sink.taken c.loop-piece.sink) (g.K.Sink.taken c.put.new.sink) (joined (take k pieces)) (get_or pieces k nothing).now c.loop-piece.invariant.taken c.in_ok-put.ensures.whole);
      faults = omega (arith, c.loop-piece.invariant.faults, c.put.ensures.never_falls);
    }
