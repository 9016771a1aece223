use Rattle.std.proofs.Common.{◌≡◌, ◌∷◌, take}
use Rattle.std.specs.List.{flat_map}
use Rattle.term_text.specs.Spelling.{escaped}
use Rattle.term_text.specs.Pieces.{bytes, put_all}
use Rattle.prolog_writer.proofs.spelling.spell_quoted.Given as goal

abbrev pub invariant-loop-byte : goal.invariant-loop-byte
invariant-loop-byte l = l.output ≡ put_all l.fn.output (bytes (39 ∷ flat_map escaped (take l.byte-index l.name)))
