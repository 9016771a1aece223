-- A term as the list of its nodes, each before its arguments, and back.
use Rattle.std.specs.Prelude.{◌≡◌, ℕ, ℤ, ◌⊎◌, List, [], ◌∷◌, ◌++◌, length, take, drop, refl}
use Rattle.std.proofs.Common.{inl, inr, ap, ◌∙◌}
use Rattle.std.proofs.Math.Seq.{take-append_seam, drop-append_seam}
use Rattle.std.specs.Coded.{Coded, code_by, coded×, coded⊎, coded_ℕ, coded_ℤ, coded_list}
use Rattle.term_meaning.specs.Plain.{Plain, Plains, variable, integer, atom, compound, none, more, plains, items, plains-items}

-- a variable, an integer, an atom, or a compound's name with the number of its arguments
abbrev pub Node : Type 0
Node = ℕ ⊎ (ℤ ⊎ (ℕ ⊎ (ℕ × ℕ)))

abbrev coded_node : Coded Node
coded_node = coded⊎ coded_ℕ (coded⊎ coded_ℤ (coded⊎ coded_ℕ (coded× coded_ℕ coded_ℕ)))

abbrev mutual
  -- the nodes of a term, and then the rest
  pub listed : Plain → List Node → List Node
  listed (variable n) rest = inl n ∷ rest
  listed (integer z) rest = inr (inl z) ∷ rest
  listed (atom n) rest = inr (inr (inl n)) ∷ rest
  listed (compound n ts) rest = inr (inr (inr (n, length (items ts)))) ∷ all_listed ts rest

  pub all_listed : Plains → List Node → List Node
  all_listed none rest = rest
  all_listed (more t ts) rest = listed t (all_listed ts rest)

-- the terms behind a node, with that node put before them
abbrev pub put : Node → List Plain → List Plain
put (inl n) behind = variable n ∷ behind
put (inr (inl z)) behind = integer z ∷ behind
put (inr (inr (inl n))) behind = atom n ∷ behind
put (inr (inr (inr p))) behind = compound p.0 (plains (take p.1 behind)) ∷ drop p.1 behind

-- the terms of a list of nodes
abbrev pub terms : List Node → List Plain
terms [] = []
terms (n ∷ ns) = put n (terms ns)

mutual
  pub terms-listed : (t : Plain) (rest : List Node) → terms (listed t rest) ≡ t ∷ terms rest
  terms-listed (variable n) rest = refl
  terms-listed (integer z) rest = refl
  terms-listed (atom n) rest = refl
  terms-listed (compound n ts) rest =
      rw (terms-all_listed ts rest, take-append_seam, drop-append_seam, plains-items) refl

  pub terms-all_listed : (ts : Plains) (rest : List Node) → terms (all_listed ts rest) ≡ items ts ++ terms rest
  terms-all_listed none rest = refl
  terms-all_listed (more t ts) rest =
      terms-listed t (all_listed ts rest) ∙ ap (λ (us : List Plain). t ∷ us) (terms-all_listed ts rest)

-- the first term
abbrev first : List Plain → Plain
first [] = variable 0
first (t ∷ ts) = t

abbrev pub coded_plain : Coded Plain
coded_plain =
    code_by (List Node) (coded_list coded_node) (λ t. listed t []) (λ ns. first (terms ns)) (λ t. ap first (terms-listed t []))

abbrev pub coded_plains : Coded (List Plain)
coded_plains = coded_list coded_plain
