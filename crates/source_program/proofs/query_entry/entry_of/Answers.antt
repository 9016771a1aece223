use Rattle.std.proofs.Common.{◌≡◌, ◌∙◌, List, Some, rules, refl, sym, length, map, slice_get}
use Rattle.std.proofs.lemmas.List.{length-map}
use Rattle.std.proofs.lemmas.Option.{slice_get_read}
use Rattle.aq_term.specs.PlainOf.{plain}
use Rattle.term_meaning.specs.Plain.{Plain, plains, variables_of_all}
use Rattle.source_program.specs.Modes.{first_refused, stands_once}
use Rattle.source_program.proofs.CountLemmas.{refused_by_counts}
use Rattle.source_program.proofs.query_entry.entry_of.Goals as goal
use Rattle.source_program.proofs.query_entry.entry_of.Goals.{in-Some, in-None}

pub returns-then-arguments-entry-clause-taken : goal.returns-then-arguments-entry-clause-taken
returns-then-arguments-entry-clause-taken c named =
    let entry = c.index-entries-place.result in
    let ts : List Plain = map plain c.args.arguments.now in
    let at : slice_get c.args.entries.now c.loop-place.place ≡ Some entry =
    slice_get_read c.args.entries.now _ c.loop-place.place entry refl c.loop-place-test.true c.index-entries-place.is in
    let name : c.args.name.number ≡ entry.name.number = search rules in
    let arity : length ts ≡ entry.arity = length-map c.args.arguments.now plain ∙ search rules in
    let by_counts = refused_by_counts c.args.variables c.in_ok-counts.counts.counts.items entry.modes ts c.in_ok-counts.ensures named in
    let refused : first_refused (stands_once (variables_of_all (plains ts))) 0 entry.modes ts ≡ c.first_refused.result =
    sym by_counts ∙ rw (← c.as_slice.ensures) (sym c.first_refused.ensures) in
    elim c.match-first_refused.branch [
      | in-Some w ↦ rw w.result-is tt
      | in-None w ↦ rw w.result-is (entry, at, (name, arity, refused ∙ w.in-None.is))
    ]

pub returns-then-arguments-entry-clause-mode : goal.returns-then-arguments-entry-clause-mode
returns-then-arguments-entry-clause-mode c argument named is =
    let entry = c.index-entries-place.result in
    let ts : List Plain = map plain c.args.arguments.now in
    let at : slice_get c.args.entries.now c.loop-place.place ≡ Some entry =
    slice_get_read c.args.entries.now _ c.loop-place.place entry refl c.loop-place-test.true c.index-entries-place.is in
    let name : c.args.name.number ≡ entry.name.number = search rules in
    let arity : length ts ≡ entry.arity = length-map c.args.arguments.now plain ∙ search rules in
    let by_counts = refused_by_counts c.args.variables c.in_ok-counts.counts.counts.items entry.modes ts c.in_ok-counts.ensures named in
    let refused : first_refused (stands_once (variables_of_all (plains ts))) 0 entry.modes ts ≡ c.first_refused.result =
    sym by_counts ∙ rw (← c.as_slice.ensures) (sym c.first_refused.ensures) in
    elim c.match-first_refused.branch [
      | in-Some w ↦
          let same : c.first_refused.result ≡ Some argument = cc in
          (c.loop-place.place, entry, at, (name, arity, refused ∙ same))
      | in-None w ↦ let bad : ⊥ = cc in absurd bad
    ]
