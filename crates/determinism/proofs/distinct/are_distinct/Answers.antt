use Rattle.std.proofs.Common.{◌≡◌, ◌+◌, true, false, None, Some, take, sym, ap, ◌∙◌, ◌++◌, ◌∷◌, []}
use Rattle.std.specs.HashSet as bag
use Rattle.std.specs.List.{list_any}
use Rattle.std.specs.Prelude.{cond}
use Rattle.std.proofs.lemmas.List.{take_more}
use Rattle.determinism.specs.Distinct.{is_same, same_key, are_distinct}
use Rattle.determinism.specs.Entries.{same_entry, entry_of}
use Rattle.determinism.proofs.Repeats.{none_distinct, repeated_distinct, pushed_distinct, not_true, not_false, same_entries, any_more, found_now}
use Rattle.determinism.proofs.distinct.are_distinct.Goals as goal

pub returns-in_default : goal.returns-in_default
returns-in_default c = sym (none_distinct c.args.keys.now c.loop-key.key-index None c.loop-key-test.true c.in_default.is)

pub returns-then-not-branch : goal.returns-then-not-branch
returns-then-not-branch c =
    let has : bag.contains same_entry c.loop-key.seen c.entry.result ≡ true =
    not_false (bag.contains same_entry c.loop-key.seen c.entry.result) (sym c.in_ok-insert.ensures.added ∙ c.if-not-branch.true) in
    let before : list_any (is_same c.in-Some.key) (take c.loop-key.key-index c.args.keys.now) ≡ true =
    sym (c.loop-key.invariant.seen c.in-Some.key) ∙ ap (bag.contains same_entry c.loop-key.seen) (sym c.entry.ensures) ∙ has in
    sym (repeated_distinct c.args.keys.now c.loop-key.key-index None c.in-Some.key c.loop-key-test.true c.in-Some.is before)

pub loop-key-preserved : goal.loop-key-preserved
loop-key-preserved c =
    let new : bag.contains same_entry c.loop-key.seen c.entry.result ≡ false =
    not_true (bag.contains same_entry c.loop-key.seen c.entry.result) (sym c.in_ok-insert.ensures.added ∙ c.if-not-branch.false) in
    let apart : list_any (is_same c.in-Some.key) (take c.loop-key.key-index c.args.keys.now) ≡ false =
    sym (c.loop-key.invariant.seen c.in-Some.key) ∙ ap (bag.contains same_entry c.loop-key.seen) (sym c.entry.ensures) ∙ new in
    let taken : take (c.loop-key.key-index + 1) c.args.keys.now ≡ take c.loop-key.key-index c.args.keys.now ++ Some c.in-Some.key ∷ [] =
    take_more c.args.keys.now c.loop-key.key-index None c.loop-key-test.true
    ∙ ap (λ k. take c.loop-key.key-index c.args.keys.now ++ k ∷ []) c.in-Some.is in
    record {
      distinct = rw taken (pushed_distinct (take c.loop-key.key-index c.args.keys.now) c.in-Some.key c.loop-key.invariant.distinct apart);
      seen = λ q.
          c.in_ok-insert.ensures.updates.0 (entry_of q)
          ∙ ap (λ e. cond (same_entry e (entry_of q)) true (bag.contains same_entry c.loop-key.seen (entry_of q))) c.entry.ensures
          ∙ ap (λ b. cond b true (bag.contains same_entry c.loop-key.seen (entry_of q))) (same_entries c.in-Some.key q)
          ∙ ap (cond (same_key c.in-Some.key q) true) (c.loop-key.invariant.seen q)
          ∙ found_now (same_key c.in-Some.key q) (list_any (is_same q) (take c.loop-key.key-index c.args.keys.now))
          ∙ sym (any_more (is_same q) (take c.loop-key.key-index c.args.keys.now) (Some c.in-Some.key))
          ∙ ap (list_any (is_same q)) (sym taken);
    }
