-- Facts are a lattice.
use Rattle.std.specs.Prelude.{◌≡◌, Bool, true}
use Rattle.type_lattice.specs.declared.fact.Fact.{Fact}
use Rattle.type_lattice.specs.declared.fact.Fact.TheVariants as fact
use Rattle.type_lattice.specs.Facts.{below, join, meet, strip, with}

abbrev IsOrder : Type 0
IsOrder =
    ((a : Fact) → below a a ≡ true)
    × ((a b : Fact) → below a b ≡ true → below b a ≡ true → a ≡ b)
    × ((a b c : Fact) → below a b ≡ true → below b c ≡ true → below a c ≡ true)

-- the join is above both, and below all that is above both
abbrev IsLeastAbove : Type 0
IsLeastAbove =
    ((a b : Fact) → below a (join a b) ≡ true)
    × ((a b : Fact) → below b (join a b) ≡ true)
    × ((a b c : Fact) → below a c ≡ true → below b c ≡ true → below (join a b) c ≡ true)

-- the meet is below both, and above all that is below both
abbrev IsGreatestBelow : Type 0
IsGreatestBelow =
    ((a b : Fact) → below (meet a b) a ≡ true)
    × ((a b : Fact) → below (meet a b) b ≡ true)
    × ((a b c : Fact) → below c a ≡ true → below c b ≡ true → below c (meet a b) ≡ true)

-- what is known besides says no less, and what a fact says of the term keeps its order
abbrev IsMonotone : Type 0
IsMonotone =
    ((a b : Fact) → below a b ≡ true → below (strip a) (strip b) ≡ true)
    × ((a : Fact) → below a (strip a) ≡ true)
    × ((a : Fact) → below (with a fact.Ground) fact.Ground ≡ true)
    × ((a : Fact) → below (with a fact.Nonvar) fact.Nonvar ≡ true)

pub record FactsAreLattice : Type 0 where
  pub order : IsOrder
  pub least : IsLeastAbove
  pub greatest : IsGreatestBelow
  pub monotone : IsMonotone
