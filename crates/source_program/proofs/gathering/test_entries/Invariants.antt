use Rattle.std.proofs.Common.{◌≡◌, ℕ, ◌<◌, true, get_or}
use Rattle.aq_term.specs.declared.entry.Entry.{Entry}
use Rattle.source_program.specs.KeySets.{is_among}
use Rattle.source_program.specs.TextKeys.{entry_row}
use Rattle.source_program.proofs.gathering.test_entries.Given as goal

abbrev pub invariant-loop-entry : goal.invariant-loop-entry
invariant-loop-entry l =
    (k : ℕ) (d : Entry) → k < l.entry-index → is_among l.gathered.keys (entry_row (get_or l.entries k d)).key ≡ true
