use Rattle.std.specs.Prelude.{◌≡◌, ℕ, ◌+◌, ◌*◌, ◌/◌, ◌%◌, ◌^◌, ◌≤◌}
use Rattle.std.proofs.Common.{ap, arith}
use Rattle.std.proofs.lemmas.Bool.Decides.{nat_tests}
use Rattle.tag_word.specs.Tag.{number_of, tag_of}
use Rattle.tag_word.specs.Tagged.{Tagged}
use Rattle.tag_word.specs.declared.word.Word.TheInside.{Inside}

-- the bits of a word as its tag and its value
abbrev pub tagged_of : Inside → Tagged
tagged_of w = record { tag = tag_of (w.bits / 2 ^ 64); value = w.bits % 2 ^ 64 }

-- the bits of a word with this tag and this value
abbrev pub word_of : Tagged → Inside
word_of t = record { bits = number_of t.tag * 2 ^ 64 + t.value }

number_of-tag_of : (n : ℕ) → 1 ≤ n → n ≤ 10 → number_of (tag_of n) ≡ n
number_of-tag_of n low high = grind (arith, nat_tests)

bits-parts : (n : ℕ) → 1 ≤ n / 2 ^ 64 → n / 2 ^ 64 ≤ 10 → number_of (tag_of (n / 2 ^ 64)) * 2 ^ 64 + n % 2 ^ 64 ≡ n
bits-parts n low high =
    let e : number_of (tag_of (n / 2 ^ 64)) ≡ n / 2 ^ 64 = number_of-tag_of (n / 2 ^ 64) low high in
    omega arith

-- a word's bits are given back
pub word_of-tagged_of : (w : Inside) → 1 ≤ w.bits / 2 ^ 64 → w.bits / 2 ^ 64 ≤ 10 → word_of (tagged_of w) ≡ w
word_of-tagged_of w low high =
    let make : ℕ → Inside = λ n. record { bits = n } in
    ap make (bits-parts w.bits low high)
