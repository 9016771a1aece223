-- Undoing the trail word by word.
use Rattle.std.proofs.Common.{◌≡◌, ℕ, zero, suc, ◌+◌, ◌<◌, List, [], ◌∷◌, length, take, drop, Some, refl, arith, ap, ◌∙◌}
use Rattle.std.specs.List.{slice_get}
use Rattle.std.specs.Prelude.{slice_set}
use Rattle.tag_word.specs.Tagged.{Tagged}
use Rattle.machine_store.specs.Areas.{Areas, ref_word, kept_heap, kept_trail, undone}

drop-none : (xs : List Tagged) → drop 0 xs ≡ xs
drop-none [] = refl
drop-none (x ∷ xs) = refl

pub undone_step : (trail heap : List Tagged) (at index : ℕ) → at < length trail → ((word : Tagged) → slice_get trail at ≡ Some word → index ≡ word.value) → undone (drop (at + 1) trail) (slice_set heap index (ref_word index)) ≡ undone (drop at trail) heap
undone_step [] heap at index lt is = absurd (omega arith)
undone_step (x ∷ trail) heap zero index lt is =
    let here : index ≡ x.value = is x refl in
    ap (λ (n : ℕ). undone (drop 0 trail) (slice_set heap n (ref_word n))) here ∙ ap (λ (xs : List Tagged). undone xs (slice_set heap x.value (ref_word x.value))) (drop-none trail)
undone_step (x ∷ trail) heap (suc at) index lt is =
    let next : suc at + 1 ≡ suc (at + 1) = omega arith in
    rw next (undone_step trail heap at index (omega arith) is)

take-nothing : (n : ℕ) → take {A = Tagged} n [] ≡ []
take-nothing zero = refl
take-nothing (suc n) = refl

drop-nothing : (n : ℕ) → drop {A = Tagged} n [] ≡ []
drop-nothing zero = refl
drop-nothing (suc n) = refl

empty_heap : (m n : ℕ) (trail heap : List Tagged) → heap ≡ [] → trail ≡ [] → undone (drop m trail) (take n heap) ≡ heap
empty_heap m n trail heap no_heap no_trail =
    rw (no_heap, no_trail, drop-nothing m, take-nothing n) refl

empty_trail : (n : ℕ) (trail : List Tagged) → trail ≡ [] → take n trail ≡ trail
empty_trail n trail no_trail = rw no_trail (take-nothing n)

-- without a heap and a trail nothing is undone
pub nothing_undone : (areas new : Areas) → areas.heap ≡ [] → areas.trail ≡ [] → new ≡ record areas { heap = undone (drop (kept_trail areas) areas.trail) (take (kept_heap areas) areas.heap); trail = take (kept_trail areas) areas.trail } → new ≡ areas
nothing_undone areas new no_heap no_trail undoes =
    undoes ∙ ap (λ (h : List Tagged). record areas { heap = h; trail = take (kept_trail areas) areas.trail }) (empty_heap (kept_trail areas) (kept_heap areas) areas.trail areas.heap no_heap no_trail) ∙ ap (λ (t : List Tagged). record areas { trail = t }) (empty_trail (kept_trail areas) areas.trail no_trail)
