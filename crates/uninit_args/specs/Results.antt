-- Which arguments of a predicate are results.
use Rattle.std.specs.Prelude.{ℕ, suc, ◌+◌, min, List, [], ◌∷◌, ◌++◌, Option, None, Some}
use Rattle.std.specs.Borrow.{Bor}
use Rattle.type_lattice.specs.declared.fact.Fact.{Fact}
use Rattle.type_lattice.specs.declared.fact.Fact.TheVariants as fact
use Rattle.flow_equations.specs.declared.predicate_facts.PredicateFacts.{PredicateFacts}
use Rattle.kernel_ir.specs.declared.kernel_predicate.KernelPredicate.{KernelPredicate}

-- the number of an argument that is out
abbrev pub out_at : ℕ → Fact → List ℕ
out_at i fact.Out = min i 255 ∷ []
out_at i f = []

-- the numbers of those that are out, the first of the facts being that of argument i
abbrev pub outs_from : ℕ → List Fact → List ℕ
outs_from i [] = []
outs_from i (f ∷ fs) = out_at i f ++ outs_from (i + 1) fs

abbrev pub outs_of : List Fact → List ℕ
outs_of fs = outs_from 0 fs

-- those by the facts that a reference leads to, none where it leads to none
abbrev pub outs_by : Option (Bor PredicateFacts) → List ℕ
outs_by None = []
outs_by (Some known) = outs_of known.now.call

-- a list for each predicate
abbrev pub plans_of : List KernelPredicate → List PredicateFacts → List (List ℕ)
plans_of [] fs = []
plans_of (p ∷ ps) [] = [] ∷ plans_of ps []
plans_of (p ∷ ps) (f ∷ fs) = outs_of f.call ∷ plans_of ps fs
