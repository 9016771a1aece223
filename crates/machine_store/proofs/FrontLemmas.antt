-- What the words at the start of an area's memory are after each call.
use Rattle.std.proofs.Common.{◌≡◌, ℕ, zero, suc, ◌+◌, ◌-◌, ◌<◌, ◌≤◌, List, [], ◌∷◌, ◌++◌, Option, Some, None, length, get_or, set, take, refl, ap, arith, sym, ◌∙◌}
use Rattle.std.proofs.lemmas.List.{length-set, length-append, length-take-le}
use Rattle.std.specs.List.{slice_get}
use Rattle.tag_word.specs.Tagged.{Tagged}
use Rattle.word_area.specs.Words.{IsSetAt}
use Rattle.machine_store.specs.Front.{front}
use Rattle.machine_store.specs.Held.{Held}

pub front_within : (n : ℕ) (places : List (Option Tagged)) → length (front n places) ≤ length places
front_within zero places = omega arith
front_within (suc n) [] = omega arith
front_within (suc n) (None ∷ places) = omega arith
front_within (suc n) (Some word ∷ places) = omega (arith, front_within n places)

pub front_is_set : (n : ℕ) (places : List (Option Tagged)) (i : ℕ) → i < length (front n places) → IsSetAt places i
front_is_set zero places i below = absurd (omega arith)
front_is_set (suc n) [] i below = absurd (omega arith)
front_is_set (suc n) (None ∷ places) i below = absurd (omega arith)
front_is_set (suc n) (Some word ∷ places) zero below = (word, refl)
front_is_set (suc n) (Some word ∷ places) (suc i) below = front_is_set n places i (omega arith)

pub front_get : (n : ℕ) (places : List (Option Tagged)) (i : ℕ) (word : Tagged) → i < length (front n places) → get_or places i None ≡ Some word → slice_get (front n places) i ≡ Some word
front_get zero places i word below e = absurd (omega arith)
front_get (suc n) [] i word below e = absurd (omega arith)
front_get (suc n) (None ∷ places) i word below e = absurd (omega arith)
front_get (suc n) (Some first ∷ places) zero word below e = e
front_get (suc n) (Some first ∷ places) (suc i) word below e = front_get n places i word (omega arith) e

pub front_set : (n : ℕ) (places : List (Option Tagged)) (i : ℕ) (word : Tagged) → i < length (front n places) → front n (set places i (Some word)) ≡ set (front n places) i word
front_set zero places i word below = absurd (omega arith)
front_set (suc n) [] i word below = absurd (omega arith)
front_set (suc n) (None ∷ places) i word below = absurd (omega arith)
front_set (suc n) (Some first ∷ places) zero word below = refl
front_set (suc n) (Some first ∷ places) (suc i) word below = ap (λ (words : List Tagged). first ∷ words) (front_set n places i word (omega arith))

-- a word put behind the front
front_push : (n : ℕ) (places : List (Option Tagged)) (word : Tagged) → length (front n places) ≡ n → n < length places → front (suc n) (set places n (Some word)) ≡ front n places ++ word ∷ []
front_push zero [] word long room = absurd (omega arith)
front_push zero (place ∷ places) word long room = refl
front_push (suc n) [] word long room = absurd (omega arith)
front_push (suc n) (None ∷ places) word long room = absurd (omega arith)
front_push (suc n) (Some first ∷ places) word long room = ap (λ (words : List Tagged). first ∷ words) (front_push n places word (omega arith) (omega arith))

-- a front of fewer places
pub front_cut : (n k : ℕ) (places : List (Option Tagged)) → k ≤ n → front k places ≡ take k (front n places)
front_cut n zero places less = refl
front_cut zero (suc k) places less = absurd (omega arith)
front_cut (suc n) (suc k) [] less = refl
front_cut (suc n) (suc k) (None ∷ places) less = refl
front_cut (suc n) (suc k) (Some word ∷ places) less = ap (λ (words : List Tagged). word ∷ words) (front_cut n k places (omega arith))

-- the last word of a front
front_last : (n : ℕ) (places : List (Option Tagged)) (word : Tagged) → length (front (suc n) places) ≡ suc n → get_or places n None ≡ Some word → front (suc n) places ≡ front n places ++ word ∷ []
front_last zero [] word long e = absurd (omega arith)
front_last zero (None ∷ places) word long e = absurd (omega arith)
front_last zero (Some first ∷ places) word long e = cc
front_last (suc n) [] word long e = absurd (omega arith)
front_last (suc n) (None ∷ places) word long e = absurd (omega arith)
front_last (suc n) (Some first ∷ places) word long e = ap (λ (words : List Tagged). first ∷ words) (front_last n places word (omega arith) e)

pub front_pushed : (n more : ℕ) (places : List (Option Tagged)) (word : Tagged) → more ≡ n + 1 → length (front n places) ≡ n → n < length places → front more (set places n (Some word)) ≡ front n places ++ word ∷ []
front_pushed n more places word one long room =
    let is : more ≡ suc n = omega (arith, one) in
    ap (λ (k : ℕ). front k (set places n (Some word))) is ∙ front_push n places word long room

pub front_pushed_length : (n more : ℕ) (places : List (Option Tagged)) (word : Tagged) → more ≡ n + 1 → length (front n places) ≡ n → n < length places → length (front more (set places n (Some word))) ≡ more
front_pushed_length n more places word one long room =
    let is : length (front n places ++ word ∷ []) ≡ length (front n places) + 1 = length-append (front n places) (word ∷ []) in
    ap length (front_pushed n more places word one long room) ∙ is ∙ omega (arith, one, long)

pub front_popped : (n less : ℕ) (places : List (Option Tagged)) (word : Tagged) → n ≡ less + 1 → length (front n places) ≡ n → get_or places less None ≡ Some word → front n places ≡ front less places ++ word ∷ []
front_popped n less places word one long there =
    let is : n ≡ suc less = omega (arith, one) in
    let all : length (front (suc less) places) ≡ suc less = ap (λ (k : ℕ). length (front k places)) (sym is) ∙ long ∙ is in
    ap (λ (k : ℕ). front k places) is ∙ front_last less places word all there

pub front_taken_length : (n k : ℕ) (places : List (Option Tagged)) → k ≤ n → length (front n places) ≡ n → length (front k places) ≡ k
front_taken_length n k places less long =
    ap length (front_cut n k places less) ∙ length-take-le k (front n places) (omega (arith, less, long))

abbrev pub held : ℕ → List (Option Tagged) → Held
held n places = record { words = front n places; limit = length places }

same_held : (n : ℕ) (places : List (Option Tagged)) (words : List Tagged) (limit : ℕ) → front n places ≡ words → length places ≡ limit → held n places ≡ record { words = words; limit = limit }
same_held n places words limit same bound =
    ap (λ (ws : List Tagged). record { words = ws; limit = length places }) same ∙ ap (λ (k : ℕ). record { words = words; limit = k }) bound

pub held_pushed : (n : ℕ) (places new : List (Option Tagged)) (word : Tagged) (old : Held) → held n places ≡ old → length (front n places) ≡ n → new ≡ set places n (Some word) → n < length places → held (n + 1) new ≡ record { words = old.words ++ word ∷ []; limit = old.limit }
held_pushed n places new word old is long sets room =
    let words : front (n + 1) new ≡ old.words ++ word ∷ [] = ap (front (n + 1)) sets ∙ front_pushed n (n + 1) places word refl long room ∙ ap (λ (h : Held). h.words ++ word ∷ []) is in
    let limit : length new ≡ old.limit = ap length sets ∙ length-set places n (Some word) ∙ ap (λ (h : Held). h.limit) is in
    same_held (n + 1) new (old.words ++ word ∷ []) old.limit words limit

pub held_cut : (n k : ℕ) (places : List (Option Tagged)) (old : Held) → held n places ≡ old → k ≤ n → held k places ≡ record { words = take k old.words; limit = old.limit }
held_cut n k places old is less =
    same_held k places (take k old.words) old.limit (front_cut n k places less ∙ ap (λ (h : Held). take k h.words) is) (ap (λ (h : Held). h.limit) is)

pub held_room : (n : ℕ) (places : List (Option Tagged)) (old : Held) → held n places ≡ old → length (front n places) ≡ n → length old.words < old.limit → n < length places
held_room n places old is long room =
    let count : length (front n places) ≡ length old.words = ap (λ (h : Held). length h.words) is in
    let limit : length places ≡ old.limit = ap (λ (h : Held). h.limit) is in
    omega (arith, count, limit, room, long)

pub held_popped : (n : ℕ) (places : List (Option Tagged)) (word : Tagged) (old : Held) → held n places ≡ old → 0 < n → length (front n places) ≡ n → get_or places (n - 1) None ≡ Some word → old.words ≡ front (n - 1) places ++ word ∷ []
held_popped n places word old is some_words long there =
    ap (λ (h : Held). h.words) (sym is) ∙ front_popped n (n - 1) places word (omega (arith, some_words)) long there

pub held_set : (n : ℕ) (places new : List (Option Tagged)) (i : ℕ) (word : Tagged) (old : Held) → held n places ≡ old → i < length old.words → new ≡ set places i (Some word) → held n new ≡ record { words = set old.words i word; limit = old.limit }
held_set n places new i word old is below sets =
    let count : length (front n places) ≡ length old.words = ap (λ (h : Held). length h.words) is in
    let words : front n new ≡ set old.words i word = ap (front n) sets ∙ front_set n places i word (omega (arith, count, below)) ∙ ap (λ (h : Held). set h.words i word) is in
    let limit : length new ≡ old.limit = ap length sets ∙ length-set places i (Some word) ∙ ap (λ (h : Held). h.limit) is in
    same_held n new (set old.words i word) old.limit words limit

pub front_set_length : (n : ℕ) (places new : List (Option Tagged)) (i : ℕ) (word : Tagged) (old : Held) → held n places ≡ old → i < length old.words → length (front n places) ≡ n → new ≡ set places i (Some word) → length (front n new) ≡ n
front_set_length n places new i word old is below long sets =
    let count : length (front n places) ≡ length old.words = ap (λ (h : Held). length h.words) is in
    ap (λ (ws : List (Option Tagged)). length (front n ws)) sets ∙ ap length (front_set n places i word (omega (arith, count, below))) ∙ length-set (front n places) i word ∙ long
