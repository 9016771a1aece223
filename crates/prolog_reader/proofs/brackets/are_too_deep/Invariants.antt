use Rattle.std.proofs.Common.{◌≡◌, ◌≤◌, drop}
use Rattle.prolog_reader.specs.Brackets.{too_many_open}
use Rattle.prolog_reader.proofs.brackets.are_too_deep.Given as goal

abbrev pub invariant-loop-placed : goal.invariant-loop-placed
invariant-loop-placed l = record {
  few : l.opened ≤ 4096;
  same : too_many_open l.opened (drop l.placed-index l.tokens) ≡ too_many_open 0 l.tokens;
}
