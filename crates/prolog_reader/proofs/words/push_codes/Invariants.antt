use Rattle.std.proofs.Common.{ℕ, ◌+◌, ◌*◌, ◌≤◌, length}
use Rattle.std.specs.Str.{chars}
use Rattle.prolog_reader.specs.Words.{IsBelow, AllBelow}
use Rattle.prolog_reader.proofs.words.push_codes.Given as goal

abbrev pub invariant-loop-c : goal.invariant-loop-c
invariant-loop-c l = record {
  some : length l.yielded ≤ length (chars l.text);
  count : length l.words.items ≤ length l.fn.words.items + 2 * length l.yielded;
  below : (n : ℕ) → AllBelow n l.fn.words.items → AllBelow n l.words.items;
  before : (n : ℕ) → IsBelow n l.before;
}
