use Rattle.std.proofs.Common.{rules, ◌++◌, ◌∷◌, [], refl, arith, length-append}
use Rattle.aquarius_top.specs.FrontRefusal.{AreClauses, AreRead, FrontRefuses}
use Rattle.aquarius_top.specs.FrontFault.{IsFaultBy}
use Rattle.aquarius_top.proofs.FrontRows.{stop_refused, read_whole, unread_refused}
use Rattle.aquarius_top.proofs.front.read_clauses.Goals as goal

pub loop-reading-init : goal.loop-reading-init
loop-reading-init c =
    rw (c.new-reading.ensures.clauses, c.new-reading.ensures.refusal)
    (record {
      within = omega arith;
      counted = omega arith;
      clauses = omega arith;
      table = omega arith;
      reads = ([], AreClauses.none, refl, AreRead.none);
    })

pub returns-in_err-clause-clause-refused : goal.returns-in_err-clause-clause-refused
returns-in_err-clause-clause-refused c query =
    let so = c.loop-reading.invariant.reads in
    let refused : IsFaultBy (FrontRefuses c.args.text.now query) c.in_err-clause.field-0.0 =
    stop_refused _ _ query so.0 _ _ c.in_err-clause.ensures.refused so.1 (omega (arith, so.2)) in
    search (rules, refused)

pub loop-reading-preserved : goal.loop-reading-preserved
loop-reading-preserved c =
    let end = rw c.in-Some.is at c.in_ok-clause.ensures.end in
    let count = rw c.in-Some.is at c.in_ok-clause.ensures.count in
    let found = rw c.in-Some.is at c.in_ok-clause.ensures.found in
    let so = c.loop-reading.invariant.reads in
    record {
      within = end.1;
      counted = omega arith;
      clauses = omega (arith, c.in_ok-take.ensures.clauses);
      table = omega (arith, c.in_ok-take.ensures.table);
      reads = (
        so.0 ++ c.in-Some.clause.tokens ∷ [],
        AreClauses.more so.0 c.loop-reading.at c.in-Some.clause.tokens c.in-Some.clause.end so.1 found,
        omega (arith, so.2, length-append so.0 (c.in-Some.clause.tokens ∷ [])),
        c.in_ok-take.ensures.reads so.0 (omega (arith, so.2)) so.3,
      );
    }

pub returns-clause-read : goal.returns-clause-read
returns-clause-read c =
    let so = c.loop-reading.invariant.reads in
    let gap = rw c.in_default.is at c.in_ok-clause.ensures.none in
    read_whole _ _ so.0 _ so.1 gap (c.finish.ensures.reads so.0 so.3)

pub returns-clause-refused : goal.returns-clause-refused
returns-clause-refused c query =
    let so = c.loop-reading.invariant.reads in
    let gap = rw c.in_default.is at c.in_ok-clause.ensures.none in
    unread_refused _ _ query so.0 _ so.1 gap (c.finish.ensures.refused so.0 so.3)
