use Rattle.std.proofs.Common.{sym, arith}
use Rattle.source_program.specs.KeySets.{is_among}
use Rattle.source_program.specs.TextRefusals.{IsEntryRefusal}
use Rattle.source_program.proofs.EntryRefusals.{known_rows, first_undefined, empty_rows}
use Rattle.source_program.proofs.gathering.test_entries.Goals as goal

pub returns-then-is_empty-clause-refused : goal.returns-then-is_empty-clause-refused
returns-then-is_empty-clause-refused c = IsEntryRefusal.no_entry (rw (← c.as_slice-entries.ensures) (empty_rows _ c.if-is_empty.ensures))

pub returns-then-not-has-clause-refused : goal.returns-then-not-has-clause-refused
returns-then-not-has-clause-refused c =
    rw (← c.as_slice-entries.ensures)
    (IsEntryRefusal.undefined _ (first_undefined _ _ _ c.entry-item.result c.loop-entry-test.true c.entry-item.is c.loop-entry.invariant (sym c.if-not-has.ensures)))

pub returns-clause-defined : goal.returns-clause-defined
returns-clause-defined c = rw (← c.as_slice-entries.ensures)
    (known_rows (is_among c.args.gathered.now.keys) _ (λ k d below. c.loop-entry.invariant k d (omega (arith, below, c.loop-entry-test.false))))
