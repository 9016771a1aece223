-- What is built has low variables, no more nodes than words, and no great depth.
use Rattle.std.proofs.Common.{◌≡◌, ℕ, ◌+◌, ◌-◌, ◌^◌, ◌<◌, ◌≤◌, max, min, Bool, true, false, cond, ltb, nat_lt, List, [], ◌∷◌, ◌++◌, length, Option, Some, None, is_some, refl, sym, ap, ◌∙◌, subst, arith}
use Rattle.std.proofs.lemmas.Bool.Decides.{nat_tests}
use Rattle.term_meaning.specs.Plain.{Plain, Plains, plains, nodes, nodes_of_all, depth, depth_of_all, none, more}
use Rattle.aq_term.specs.PlainOf.{plain}
use Rattle.aq_term.specs.declared.atom.Atom.{Atom}
use Rattle.aq_term.specs.declared.term.Term.{Term}
use Rattle.aq_term.specs.declared.term.Term.TheVariants as term
use Rattle.prolog_reader.specs.Below.{Below, AllBelow}
use Rattle.prolog_reader.specs.declared.built.TermFault.{TermFault}
use Rattle.prolog_reader.specs.declared.built.TermFault.TheVariants as fault
use Rattle.prolog_reader.specs.declared.built.Measured.{Measured}
use Rattle.prolog_reader.specs.declared.built.Built.{Built}
use Rattle.prolog_reader.specs.declared.built.Built.TheVariants.{Whole, Faulty}
use Rattle.prolog_reader.specs.Terms.{sum_of, simple, of_depth, unary, both, binary}

-- a term with its depth, of variables below n, of at most k nodes
pub record FineTerm (n k : ℕ) (t : Term) (d : ℕ) : Type 0 where
  pub below : Below n (plain t)
  pub nodes_few : nodes (plain t) ≤ k
  pub deep : depth (plain t) ≤ d
  pub shallow : d ≤ 4096

abbrev pub Fine : ℕ → ℕ → Built → Type 0
Fine n k (Whole m) = FineTerm n k m.term m.depth
Fine n k (Faulty f) = Unit {0}

pub Fine-more : (n j k : ℕ) (b : Built) → j ≤ k → Fine n j b → Fine n k b
Fine-more n j k (Faulty f) le h = tt
Fine-more n j k (Whole m) le h = record { below = h.below; nodes_few = omega (arith, h.nodes_few); deep = h.deep; shallow = h.shallow }

-- a term of a depth is fine where it is not too deep
pub of_depth_fine : (n k : ℕ) (t : Term) (d : ℕ) → Below n (plain t) → nodes (plain t) ≤ k → depth (plain t) ≤ d → Fine n k (of_depth t d)
of_depth_fine n k t d below few deep = chosen (nat_lt 4096 d) refl
  where
    chosen : (b : Bool) → nat_lt 4096 d ≡ b → Fine n k (cond b (Faulty fault.Depth) (Whole (record { term = t; depth = d })))
    chosen true e = tt
    chosen false e = record { below = below; nodes_few = few; deep = deep; shallow = grind (arith, nat_tests) }

pub simple_fine : (n k : ℕ) (t : Term) → Below n (plain t) → nodes (plain t) ≤ k → depth (plain t) ≤ 1 → Fine n k (simple t)
simple_fine n k t below few deep = record { below = below; nodes_few = few; deep = deep; shallow = omega arith }

pub unary_fine : (n k : ℕ) (a : Atom) (b : Built) → Fine n k b → Fine n (k + 1) (unary a b)
unary_fine n k a (Faulty f) h = tt
unary_fine n k a (Whole m) h =
    of_depth_fine n (k + 1) (term.Compound a (plain m.term ∷ [])) (sum_of m.depth 1) (h.below, tt) (omega (arith, h.nodes_few)) (omega (arith, h.deep, h.shallow))

pub binary_fine : (n i j k : ℕ) (a : Atom) (b c : Built) → i + j + 1 ≤ k → Fine n i b → Fine n j c → Fine n k (binary a b c)
binary_fine n i j k a (Faulty f) (Faulty g) le x y = tt
binary_fine n i j k a (Faulty f) (Whole m) le x y = tt
binary_fine n i j k a (Whole m) (Faulty g) le x y = tt
binary_fine n i j k a (Whole m) (Whole l) le x y =
    of_depth_fine n k (term.Compound a (plain m.term ∷ plain l.term ∷ [])) (sum_of (max m.depth l.depth) 1) (x.below, (y.below, tt)) (omega (arith, x.nodes_few, y.nodes_few)) (omega (arith, x.deep, y.deep, x.shallow, y.shallow))
