use Rattle.std.proofs.Common.{◌≡◌, ◌+◌, ◌-◌, ◌≤◌, take, drop, length, arith, length-take, length-drop}
use Rattle.std.proofs.Math.Seq.{take-add}
use Rattle.std.proofs.lemmas.List.{take_rest}
use Rattle.aq_base.proofs.KnownBytes.{Appends-more}
use Rattle.aq_base.proofs.put.put.Goals as goal

pub loop-at-preserved : goal.loop-at-preserved
loop-at-preserved g c =
    let rest = take_rest c.args.bytes.now c.loop-at.at in
    let written = rw rest at c.in_ok-at.ensures.bytes in
    let counted = simp (length-take, length-drop) at c.in_ok-at.ensures.within in
    record {
      within = omega arith;
      so_far =
          rw (take-add c.loop-at.at c.in_ok-at.field-0 c.args.bytes.now)
          (Appends-more _ _ _ _ _ c.loop-at.invariant.so_far written);
      never_falls = omega arith;
    }
