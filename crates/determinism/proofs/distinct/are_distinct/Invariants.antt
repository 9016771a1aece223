use Rattle.std.proofs.Common.{◌≡◌, true, take}
use Rattle.std.specs.HashSet as bag
use Rattle.std.specs.List.{list_any}
use Rattle.std.specs.Ordering.{int_eq}
use Rattle.std.specs.Prelude.{ℕ, ℤ, ◌&&◌, nat_eq}
use Rattle.determinism.specs.Distinct.{are_distinct, is_same}
use Rattle.determinism.specs.Entries.{entry_of, same_entry}
use Rattle.determinism.specs.declared.key.Key.{Key}
use Rattle.determinism.proofs.distinct.are_distinct.Given as goal

abbrev pub invariant-loop-key : goal.invariant-loop-key
invariant-loop-key l = record {
  distinct : are_distinct (take l.key-index l.keys) ≡ true;
  seen : (q : Key) → bag.contains same_entry l.seen (entry_of q) ≡ list_any (is_same q) (take l.key-index l.keys);
}
