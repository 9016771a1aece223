-- What an area holds.
use Rattle.std.specs.Prelude.{ℕ, List}
use Rattle.tag_word.specs.Tagged.{Tagged}

-- the words, and how many there may be
pub record Held : Type 0 where
  pub words : List Tagged
  pub limit : ℕ
