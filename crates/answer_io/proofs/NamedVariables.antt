-- Each variable of a term that was read has a name.
use Rattle.std.proofs.Common.{ℕ, ◌<◌, zero, suc, [], ◌∷◌, arith}
use Rattle.std.specs.Prelude.{All}
use Rattle.std.proofs.lemmas.List.Elements.{All-append}
use Rattle.prolog_reader.specs.Below.{Below, AllBelow}
use Rattle.term_meaning.specs.Plain.{Plain, Plains, variable, integer, atom, compound, none, more, variables, variables_of_all}

one : (n v : ℕ) → v < n → All (λ w. w < n) (v ∷ [])
one n v below zero d inside = below
one n v below (suc k) d inside = absurd (omega (arith, inside))

mutual
  pub all_named : (n : ℕ) (t : Plain) → Below n t → All (λ v. v < n) (variables t)
  all_named n (variable v) below = one n v below
  all_named n (integer z) below = λ k d inside. absurd (omega (arith, inside))
  all_named n (atom a) below = λ k d inside. absurd (omega (arith, inside))
  all_named n (compound a ts) below = all_named_in n ts below

  all_named_in : (n : ℕ) (ts : Plains) → AllBelow n ts → All (λ v. v < n) (variables_of_all ts)
  all_named_in n none below = λ k d inside. absurd (omega (arith, inside))
  all_named_in n (more t ts) below =
      All-append (λ v. v < n) (variables t) (variables_of_all ts) (all_named n t below.0) (all_named_in n ts below.1)
