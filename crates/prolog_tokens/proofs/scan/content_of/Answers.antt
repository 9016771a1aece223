use Rattle.std.proofs.Common.{ap, sym, ◌∙◌, length, ℕ, List, arith}
use Rattle.std.specs.Str.{chars}
use Rattle.std.proofs.lemmas.Str.{chars-nil}
use Rattle.prolog_tokens.proofs.scan.content_of.Goals as goal

pub loop-byte-init : goal.loop-byte-init
loop-byte-init c = record {
  bound = omega arith;
  count = sym (ap (λ (l : List ℕ). length (chars l)) c.new-text.ensures.bytes ∙ ap length chars-nil);
}
