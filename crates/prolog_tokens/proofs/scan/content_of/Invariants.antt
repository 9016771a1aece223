use Rattle.std.proofs.Common.{◌≡◌, ◌≤◌, length}
use Rattle.std.specs.String.{string_bytes}
use Rattle.std.specs.Str.{chars}
use Rattle.prolog_tokens.proofs.scan.content_of.Given as goal

abbrev pub invariant-loop-byte : goal.invariant-loop-byte
invariant-loop-byte l = record { bound : l.characters ≤ l.byte-index; count : l.characters ≡ length (chars (string_bytes l.text)) }
