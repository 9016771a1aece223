use Rattle.std.proofs.Common.{◌≡◌, ◌≤◌, drop}
use Rattle.prolog_tokens.specs.declared.digits.TheConstants.{GREATEST}
use Rattle.prolog_tokens.specs.Digits.{with_digits}
use Rattle.prolog_tokens.proofs.digits.value_of.Given as goal

abbrev pub invariant-loop-byte : goal.invariant-loop-byte
invariant-loop-byte l = record {
  held : l.value ≤ GREATEST;
  so_far : with_digits l.base 0 l.digits ≡ with_digits l.base l.value (drop l.byte-index l.digits);
}
