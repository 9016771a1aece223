use Rattle.std.proofs.lemmas.Str.{IsUtf8-string_bytes}
use Rattle.prolog_tokens.proofs.ContentLemmas.{length-chars_push, scalars_one}
use Rattle.prolog_tokens.proofs.scan.write_character.Goals as goal

pub returns : goal.returns
returns c =
    rw c.in_ok-push.ensures.bytes (length-chars_push _ _ (IsUtf8-string_bytes c.args.text.now) (scalars_one c.args.c c.ranges.c.0))
