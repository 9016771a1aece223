-- The bytes of a text, and of the names in it.
use Rattle.std.proofs.Common.{◌≡◌, ℕ, zero, suc, ◌+◌, ◌<◌, List, [], ◌∷◌, length, get_or, drop, add-one, arith, drop-cons}
use Rattle.std.proofs.lemmas.Bool.{and_parts}
use Rattle.std.proofs.lemmas.Bool.Decides.{nat_tests}
use Rattle.std.proofs.lemmas.Str.{IsUtf8-from_ascii}
use Rattle.std.specs.Prelude.{IsTrue}
use Rattle.std.specs.List.{list_all}
use Rattle.std.specs.Str.{IsUtf8}
use Rattle.source_meaning.specs.RuleText.{is_word_byte, is_name}
use Rattle.source_meaning.proofs.RuleFronts.{name_bytes}

module _ (text : List ℕ) (at : ℕ) (there : at < length text) where
  -- the byte at the place, and what stands behind it
  pub drop_byte : drop at text ≡ get_or text at 0 ∷ drop (at + 1) text
  drop_byte = rw (add-one, drop-cons text at 0)

word_byte_ascii : (byte : ℕ) → IsTrue (is_word_byte byte) → byte < 128
word_byte_ascii byte word = grind (arith, nat_tests)

word_ascii : (bytes : List ℕ) → IsTrue (list_all is_word_byte bytes) → (i : ℕ) → get_or bytes i 0 < 128
word_ascii [] are i = omega arith
word_ascii (byte ∷ bytes) are zero = word_byte_ascii byte (and_parts (is_word_byte byte) (list_all is_word_byte bytes) are).0
word_ascii (byte ∷ bytes) are (suc i) = word_ascii bytes (and_parts (is_word_byte byte) (list_all is_word_byte bytes) are).1 i

-- a name is text
pub name_utf8 : (name : List ℕ) → IsTrue (is_name name) → IsUtf8 name
name_utf8 name named = IsUtf8-from_ascii name (word_ascii name (name_bytes name named))
