use Rattle.std.proofs.Common.{ℕ, ◌≡◌, ◌<◌, get_or, length}
use Rattle.aq_term.specs.declared.entry.Entry.{Entry}
use Rattle.source_program.proofs.query_entry.entry_of.Given as goal

abbrev pub invariant-loop-place : goal.invariant-loop-place
invariant-loop-place l =
    (k : ℕ) (d : Entry) → k < l.place →
    (l.name.number ≡ (get_or l.entries k d).name.number) × (length l.arguments ≡ (get_or l.entries k d).arity) → ⊥
