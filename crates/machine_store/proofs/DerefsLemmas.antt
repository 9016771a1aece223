-- What following references comes to.
use Rattle.std.proofs.Common.{◌≡◌, ◌≢◌, ℕ, ◌<◌, List, Option, Some, None, sym, subst, ap, ◌∙◌}
use Rattle.std.specs.Prelude.{unwrap_or}
use Rattle.std.specs.List.{slice_get}
use Rattle.tag_word.specs.declared.tag.Tag.{Tag}
use Rattle.tag_word.specs.declared.tag.Tag.TheVariants as tag
use Rattle.tag_word.specs.Tagged.{Tagged}
use Rattle.machine_store.specs.Areas.{ref_word}
use Rattle.machine_store.specs.Derefs.{DerefsBelow}

pub same_some : (a b : Tagged) → Some a ≡ Some b → a ≡ b
same_some a b e = ap (λ (o : Option Tagged). unwrap_or o a) e

pub ref_is : (word : Tagged) (index : ℕ) → word.tag ≡ tag.Ref → index ≡ word.value → word ≡ ref_word index
ref_is word index is_ref is_index =
    let make : Tag → Tagged = λ t. record { tag = t; value = word.value } in
    ap make is_ref ∙ ap ref_word (sym is_index)

-- a word that is no reference leads to itself
pub plain_only : (heap : List Tagged) (value : Tagged) (below : ℕ) (word : Tagged) → DerefsBelow heap value below word → word.tag ≢ tag.Ref → word ≡ value
plain_only heap value _ _ (DerefsBelow.plain below word no_ref no_hole e) other = e
plain_only heap value _ _ (DerefsBelow.unbound below index word is lt there e) other = e
plain_only heap value _ _ (DerefsBelow.follow below index word next is lt there differs rest) other =
    absurd (other (ap (λ (w : Tagged). w.tag) is))

same_index : (word : Tagged) (i j : ℕ) → word ≡ ref_word i → word ≡ ref_word j → i ≡ j
same_index word i j one other =
    sym (ap (λ (w : Tagged). w.value) one) ∙ ap (λ (w : Tagged). w.value) other

same_cell : (heap : List Tagged) (word a b : Tagged) (i j : ℕ) → word ≡ ref_word i → word ≡ ref_word j → slice_get heap i ≡ Some a → slice_get heap j ≡ Some b → a ≡ b
same_cell heap word a b i j one other at_i at_j =
    same_some a b (sym at_i ∙ ap (slice_get heap) (same_index word i j one other) ∙ at_j)

-- a reference to an unbound cell leads to itself
pub unbound_only : (heap : List Tagged) (value : Tagged) (at : ℕ) (below : ℕ) (word : Tagged) → DerefsBelow heap value below word → word ≡ ref_word at → slice_get heap at ≡ Some word → word ≡ value
unbound_only heap value at _ _ (DerefsBelow.plain below word no_ref no_hole e) here own = e
unbound_only heap value at _ _ (DerefsBelow.unbound below index word is lt there e) here own = e
unbound_only heap value at _ _ (DerefsBelow.follow below index word next is lt there differs rest) here own =
    absurd (differs (same_cell heap word next word index at is here there own))

-- a reference to another cell leads where that cell's word leads
pub follow_only : (heap : List Tagged) (value : Tagged) (at : ℕ) (cell : Tagged) (below : ℕ) (word : Tagged) → DerefsBelow heap value below word → word ≡ ref_word at → slice_get heap at ≡ Some cell → cell ≢ word → DerefsBelow heap value at cell
follow_only heap value at cell _ _ (DerefsBelow.plain below word no_ref no_hole e) here own other =
    absurd (no_ref (ap (λ (w : Tagged). w.tag) here))
follow_only heap value at cell _ _ (DerefsBelow.unbound below index word is lt there e) here own other =
    absurd (other (same_cell heap word cell word at index here is own there))
follow_only heap value at cell _ _ (DerefsBelow.follow below index word next is lt there differs rest) here own other =
    subst (λ (i : ℕ). DerefsBelow heap value i cell) (same_index word index at is here) (subst (λ (w : Tagged). DerefsBelow heap value index w) (same_cell heap word next cell index at is here there own) rest)
