-- The number of characters of a text to which a character is added.
use Rattle.std.proofs.Common.{◌≡◌, ℕ, ◌+◌, Bool, true, ◌&&◌, List, [], ◌∷◌, ◌++◌, length, sym, ap, ◌∙◌, length-append}
use Rattle.std.specs.Str.{chars, IsUtf8}
use Rattle.std.proofs.lemmas.List.{append-nil}
use Rattle.std.proofs.lemmas.Str.{chars-encodes, encodes-append, encodes-chars, scalars-chars}
use Rattle.std.proofs.str.Laws.{scalars-append}
use lib.Utf8.{scalar, scalars, encodes, encode}

pub length-chars_push : (bs : List ℕ) (c : ℕ) → IsUtf8 bs → scalars (c ∷ []) ≡ true → length (chars (bs ++ encode c)) ≡ length (chars bs) + 1
length-chars_push bs c utf8 ok =
    let cs = chars bs in
    let bytes : bs ++ encode c ≡ encodes (cs ++ c ∷ []) =
    sym (encodes-append cs (c ∷ []) ∙ ap (λ (l : List ℕ). l ++ (encode c ++ [])) (encodes-chars bs utf8) ∙ ap (λ (l : List ℕ). bs ++ l) (append-nil (encode c))) in
    let all_scalars = scalars-append cs (c ∷ []) (scalars-chars bs utf8) ok in
    ap (λ (l : List ℕ). length (chars l)) bytes ∙ ap length (chars-encodes (cs ++ c ∷ []) all_scalars) ∙ length-append cs (c ∷ [])

pub scalars_one : (c : ℕ) → scalar c ≡ true → scalars (c ∷ []) ≡ true
scalars_one c h = ap (λ (b : Bool). b && true) h
