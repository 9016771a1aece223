use Rattle.std.specs.Prelude.{ℕ}
use Rattle.tag_word.specs.declared.tag.Tag.{Tag}

-- what a word is: a tag and a value below 2 ^ 64
pub record Tagged : Type 0 where
  pub tag : Tag
  pub value : ℕ
