use Rattle.std.proofs.Common.{◌≡◌, ◌≤◌, ◌+◌, ◌-◌, List, length}
use Rattle.prolog_tokens.specs.declared.placed.Placed.{Placed}
use Rattle.aquarius_top.specs.FrontRefusal.{AreClauses}
use Rattle.aquarius_top.specs.FrontFault.{ReadsSoFar}
use Rattle.aquarius_top.proofs.front.read_clauses.Given as goal

abbrev pub invariant-loop-reading : goal.invariant-loop-reading
invariant-loop-reading l = record {
  within : l.at ≤ length l.text;
  counted : l.count ≤ l.at;
  clauses : length l.reading.clauses ≤ l.count;
  table : length l.atoms ≤ length l.fn.atoms + l.at;
  reads : (clauses : List (List Placed)) × AreClauses l.text clauses l.at × (length clauses ≡ l.count) × ReadsSoFar clauses l.reading.clauses l.reading.refusal;
}

abbrev pub decreases-loop-reading : goal.decreases-loop-reading
decreases-loop-reading l = length l.text - l.at
