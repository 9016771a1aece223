use Rattle.std.proofs.Common.{ℕ, ◌+◌, ◌≤◌, length, take, sum_by}
use Rattle.prolog_tokens.specs.Scan.{weight_of}
use Rattle.prolog_reader.specs.Words.{AllBelow}
use Rattle.prolog_reader.proofs.words.words_of.Given as goal

abbrev pub invariant-loop-i : goal.invariant-loop-i
invariant-loop-i l = record {
  table : length l.atoms ≤ length l.fn.atoms + l.i;
  variables : length l.variables ≤ l.i;
  below : AllBelow (length l.variables) l.words.items;
  count : length l.words.items ≤ sum_by (λ p. weight_of p.token) (take l.i l.tokens);
}
