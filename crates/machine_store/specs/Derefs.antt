-- Following references.
use Rattle.std.specs.Prelude.{◌≡◌, ◌≢◌, ℕ, ◌<◌, List, Some, length, slice_get}
use Rattle.tag_word.specs.declared.tag.Tag.TheVariants as tag
use Rattle.tag_word.specs.Tagged.{Tagged}
use Rattle.machine_store.specs.Areas.{ref_word}

-- a word leads to a value in a heap, where it names cells below an index alone: it is no reference and no hole, or it
-- names an unbound cell, or it names a cell whose word leads there and names lower cells alone
pub data DerefsBelow (heap : List Tagged) (value : Tagged) : ℕ → Tagged → Type 0 where
  plain : (below : ℕ) (word : Tagged) → word.tag ≢ tag.Ref → word.tag ≢ tag.Hol → word ≡ value → DerefsBelow heap value below word
  unbound : (below index : ℕ) (word : Tagged) → word ≡ ref_word index → index < below → slice_get heap index ≡ Some word → word ≡ value → DerefsBelow heap value below word
  follow : (below index : ℕ) (word next : Tagged) → word ≡ ref_word index → index < below → slice_get heap index ≡ Some next → next ≢ word → DerefsBelow heap value index next → DerefsBelow heap value below word

-- a word leads to a value
abbrev pub Derefs : List Tagged → Tagged → Tagged → Type 0
Derefs heap word value = DerefsBelow heap value (length heap) word
