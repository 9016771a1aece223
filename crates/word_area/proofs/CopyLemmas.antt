-- A copy word by word.
use Rattle.std.proofs.Common.{◌≡◌, ℕ, ◌+◌, ◌<◌, ◌≤◌, List, Option, Some, None, length, get_or, set, ap, arith, sym, ◌∙◌}
use Rattle.std.proofs.lemmas.List.{places, same_lists, length-set, get_or-set_same}
use Rattle.std.proofs.lemmas.Bool.{cases_eq}
use Rattle.tag_word.specs.Tagged.{Tagged}
use Rattle.word_area.specs.Words.{IsSetAt, copied}

pub length-copied : (from to count : ℕ) (words : List (Option Tagged)) → from + count ≤ length words → to + count ≤ length words → length (copied from to count words) ≡ length words
length-copied from to count words source target = grind (arith, places)

pub copied-before : (from to count j : ℕ) (words : List (Option Tagged)) (d : Option Tagged) → from + count ≤ length words → to + count ≤ length words → j < to → get_or (copied from to count words) j d ≡ get_or words j d
copied-before from to count j words d source target before = grind (arith, places)

pub copied-behind : (from to count j : ℕ) (words : List (Option Tagged)) (d : Option Tagged) → from + count ≤ length words → to + count ≤ length words → to + count ≤ j → get_or (copied from to count words) j d ≡ get_or words j d
copied-behind from to count j words d source target behind = grind (arith, places)

pub copied-inside : (from to count i j : ℕ) (words : List (Option Tagged)) (d : Option Tagged) → from + count ≤ length words → to + count ≤ length words → i < count → j ≡ to + i → get_or (copied from to count words) j d ≡ get_or words (from + i) d
copied-inside from to count i j words d source target inside is = grind (arith, places)

-- the next word of a copy from the first word on
pub copied_more : (from to i : ℕ) (words : List (Option Tagged)) (x : Option Tagged) → from + i < length words → to + i < length words → get_or words (from + i) None ≡ x → set (copied from to i words) (to + i) x ≡ copied from to (i + 1) words
copied_more from to i words x source target is =
    same_lists _ _ (length-set (copied from to i words) (to + i) x ∙ length-copied from to i words (omega arith) (omega arith) ∙ sym (length-copied from to (i + 1) words (omega arith) (omega arith))) (λ k d h. grind (arith, places, get_or-set_same, cases_eq k (to + i)))

-- the next word of a copy from the last word on
pub copied_less : (from to i n : ℕ) (words : List (Option Tagged)) (x : Option Tagged) → from + (i + (n + 1)) ≤ length words → to + (i + (n + 1)) ≤ length words → get_or words (from + i) None ≡ x → set (copied (from + (i + 1)) (to + (i + 1)) n words) (to + i) x ≡ copied (from + i) (to + i) (n + 1) words
copied_less from to i n words x source target is =
    same_lists _ _ (length-set (copied (from + (i + 1)) (to + (i + 1)) n words) (to + i) x ∙ length-copied (from + (i + 1)) (to + (i + 1)) n words (omega arith) (omega arith) ∙ sym (length-copied (from + i) (to + i) (n + 1) words (omega arith) (omega arith))) (λ k d h. grind (arith, places, get_or-set_same, cases_eq k (to + i)))

-- while words are copied to a lower index, those that are still to come stand where they stood
pub upwards_set : (from to i : ℕ) (words now : List (Option Tagged)) → now ≡ copied from to i words → to ≤ from → from + i < length words → IsSetAt words (from + i) → IsSetAt now (from + i)
upwards_set from to i words now is below source there =
    (there.0, ap (λ (ws : List (Option Tagged)). get_or ws (from + i) None) is ∙ copied-behind from to i (from + i) words None (omega arith) (omega arith) (omega arith) ∙ there.1)

pub upwards_next : (from to i : ℕ) (words now new : List (Option Tagged)) (word : Tagged) → now ≡ copied from to i words → new ≡ set now (to + i) (Some word) → get_or now (from + i) None ≡ Some word → to ≤ from → from + i < length words → new ≡ copied from to (i + 1) words
upwards_next from to i words now new word is sets reads below source =
    let read : get_or words (from + i) None ≡ Some word = sym (copied-behind from to i (from + i) words None (omega arith) (omega arith) (omega arith)) ∙ sym (ap (λ (ws : List (Option Tagged)). get_or ws (from + i) None) is) ∙ reads in
    sets ∙ ap (λ (ws : List (Option Tagged)). set ws (to + i) (Some word)) is ∙ copied_more from to i words (Some word) source (omega arith) read

-- while words are copied to a higher index, likewise
pub downwards_set : (from to i left n : ℕ) (words now : List (Option Tagged)) → left ≡ i + 1 → now ≡ copied (from + left) (to + left) n words → from ≤ to → to + left + n ≤ length words → IsSetAt words (from + i) → IsSetAt now (from + i)
downwards_set from to i left n words now last is above target there =
    (there.0, ap (λ (ws : List (Option Tagged)). get_or ws (from + i) None) is ∙ copied-before (from + left) (to + left) n (from + i) words None (omega arith) (omega arith) (omega arith) ∙ there.1)

pub downwards_next : (from to i left n more : ℕ) (words now new : List (Option Tagged)) (word : Tagged) → left ≡ i + 1 → more ≡ n + 1 → now ≡ copied (from + left) (to + left) n words → new ≡ set now (to + i) (Some word) → get_or now (from + i) None ≡ Some word → from ≤ to → to + left + n ≤ length words → new ≡ copied (from + i) (to + i) more words
downwards_next from to i left n more words now new word last one is sets reads above target =
    let read : get_or words (from + i) None ≡ Some word = sym (copied-before (from + left) (to + left) n (from + i) words None (omega arith) (omega arith) (omega arith)) ∙ sym (ap (λ (ws : List (Option Tagged)). get_or ws (from + i) None) is) ∙ reads in
    let here : now ≡ copied (from + (i + 1)) (to + (i + 1)) n words = is ∙ ap (λ (k : ℕ). copied (from + k) (to + k) n words) last in
    sets ∙ ap (λ (ws : List (Option Tagged)). set ws (to + i) (Some word)) here ∙ copied_less from to i n words (Some word) (omega arith) (omega arith) read ∙ ap (λ (k : ℕ). copied (from + i) (to + i) k words) (sym one)
