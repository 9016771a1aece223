-- The numbers of a term's variables.
use Rattle.std.specs.Prelude.{ℕ, ◌<◌}
use Rattle.term_meaning.specs.Plain.{Plain, Plains, variable, integer, atom, compound, none, more}

abbrev mutual
  -- each variable of a term has a number below n
  pub Below : ℕ → Plain → Type 0
  Below n (variable k) = k < n
  Below n (integer z) = Unit {0}
  Below n (atom a) = Unit {0}
  Below n (compound a ts) = AllBelow n ts

  pub AllBelow : ℕ → Plains → Type 0
  AllBelow n none = Unit {0}
  AllBelow n (more t ts) = Below n t × AllBelow n ts
