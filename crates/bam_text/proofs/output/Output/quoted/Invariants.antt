use Rattle.std.proofs.Common.{◌≡◌, ◌++◌, ◌∷◌, drop}
use Rattle.std.specs.List.{flat_map}
use Rattle.term_text.specs.Spelling.{escaped}
use Rattle.bam_text.proofs.output.Output.quoted.Given as goal

abbrev pub invariant-loop-byte : goal.invariant-loop-byte
invariant-loop-byte l =
    l.self ++ flat_map escaped (drop l.byte-index l.text) ≡ l.fn.self ++ 39 ∷ flat_map escaped l.text
