-- Terms as plain trees. Variables, atoms and names of compounds are numbers.
use Rattle.std.specs.Prelude.{◌≡◌, ℕ, ◌+◌, ℤ, max, Bool, true, false, ◌&&◌, List, [], ◌∷◌, ◌++◌, refl}
use Rattle.std.proofs.Common.{ap}

mutual
  pub data Plain : Type 0 where
    variable : ℕ → Plain
    integer : ℤ → Plain
    atom : ℕ → Plain
    -- the name, and the arguments
    compound : ℕ → Plains → Plain

  -- a list of terms; a list type of its own, since a data type cannot hold lists of itself
  pub data Plains : Type 0 where
    none : Plains
    more : Plain → Plains → Plains

abbrev pub plains : List Plain → Plains
plains [] = none
plains (t ∷ ts) = more t (plains ts)

abbrev pub items : Plains → List Plain
items none = []
items (more t ts) = t ∷ items ts

pub plains-items : (ts : Plains) → plains (items ts) ≡ ts
plains-items none = refl
plains-items (more t ts) = ap (more t) (plains-items ts)

abbrev mutual
  -- how many variables, integers, atoms and compounds a term is made of
  pub nodes : Plain → ℕ
  nodes (variable n) = 1
  nodes (integer z) = 1
  nodes (atom n) = 1
  nodes (compound n ts) = nodes_of_all ts + 1

  pub nodes_of_all : Plains → ℕ
  nodes_of_all none = 0
  nodes_of_all (more t ts) = nodes t + nodes_of_all ts

abbrev mutual
  -- 1 for a variable, an integer and an atom, and one more than the deepest argument for a compound
  pub depth : Plain → ℕ
  depth (variable n) = 1
  depth (integer z) = 1
  depth (atom n) = 1
  depth (compound n ts) = depth_of_all ts + 1

  -- the greatest depth, or 0
  pub depth_of_all : Plains → ℕ
  depth_of_all none = 0
  depth_of_all (more t ts) = max (depth t) (depth_of_all ts)

abbrev mutual
  -- no variable is in the term
  pub is_ground : Plain → Bool
  is_ground (variable n) = false
  is_ground (integer z) = true
  is_ground (atom n) = true
  is_ground (compound n ts) = are_ground ts

  pub are_ground : Plains → Bool
  are_ground none = true
  are_ground (more t ts) = is_ground t && are_ground ts

abbrev mutual
  -- the variables of a term from left to right, each as often as it occurs
  pub variables : Plain → List ℕ
  variables (variable n) = n ∷ []
  variables (integer z) = []
  variables (atom n) = []
  variables (compound n ts) = variables_of_all ts

  pub variables_of_all : Plains → List ℕ
  variables_of_all none = []
  variables_of_all (more t ts) = variables t ++ variables_of_all ts
