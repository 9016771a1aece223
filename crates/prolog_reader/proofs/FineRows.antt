-- Rows of arguments and elements are fine, and what is made of them.
use Rattle.std.proofs.Common.{◌≡◌, ℕ, ◌+◌, ◌-◌, ◌^◌, ◌<◌, ◌≤◌, max, min, Bool, true, false, cond, nat_lt, nat_le, List, [], ◌∷◌, ◌++◌, length, Option, Some, None, is_some, refl, sym, ap, ◌∙◌, subst, arith, length-append}
use Rattle.std.proofs.lemmas.Bool.Decides.{nat_tests}
use Rattle.term_meaning.specs.Plain.{Plain, Plains, plains, nodes, nodes_of_all, depth, depth_of_all, none, more}
use Rattle.aq_term.specs.PlainOf.{plain}
use Rattle.aq_term.specs.declared.atom.Atom.{Atom}
use Rattle.aq_term.specs.declared.term.Term.{Term}
use Rattle.aq_term.specs.declared.term.Term.TheVariants as term
use Rattle.prolog_reader.specs.Below.{Below, AllBelow}
use Rattle.prolog_reader.specs.Lists.{list_term, list_name}
use Rattle.prolog_reader.specs.declared.built.TermFault.{TermFault}
use Rattle.prolog_reader.specs.declared.built.TermFault.TheVariants as fault
use Rattle.prolog_reader.specs.declared.built.Measured.{Measured}
use Rattle.prolog_reader.specs.declared.built.Built.{Built}
use Rattle.prolog_reader.specs.declared.built.Built.TheVariants.{Whole, Faulty}
use Rattle.prolog_reader.specs.declared.row.Row.{Row}
use Rattle.prolog_reader.specs.Terms.{sum_of, simple, of_depth}
use Rattle.prolog_reader.specs.Values.{no_row, failed, counted, with_term, with_item, with_argument, with_element, compound_or, compound_of, list_or, list_of}
use Rattle.prolog_reader.proofs.FineTerms.{Fine, FineTerm, of_depth_fine}

pub nodes-push : (xs : List Plain) (x : Plain) → nodes_of_all (plains (xs ++ x ∷ [])) ≡ nodes_of_all (plains xs) + nodes x
nodes-push [] x = omega arith
nodes-push (y ∷ xs) x = omega (arith, nodes-push xs x)

pub depth-push : (xs : List Plain) (x : Plain) → depth_of_all (plains (xs ++ x ∷ [])) ≡ max (depth_of_all (plains xs)) (depth x)
depth-push [] x = omega arith
depth-push (y ∷ xs) x = omega (arith, depth-push xs x)

pub AllBelow-push : (n : ℕ) (xs : List Plain) (x : Plain) → AllBelow n (plains xs) → Below n x → AllBelow n (plains (xs ++ x ∷ []))
AllBelow-push n [] x all one = (one, tt)
AllBelow-push n (y ∷ xs) x all one = (all.0, AllBelow-push n xs x all.1 one)

pub list_nodes : (xs : List Plain) (t : Term) → nodes (plain (list_term xs t)) ≡ nodes_of_all (plains xs) + length xs + nodes (plain t)
list_nodes [] t = omega arith
list_nodes (x ∷ xs) t = omega (arith, list_nodes xs t)

pub list_below : (n : ℕ) (xs : List Plain) (t : Term) → AllBelow n (plains xs) → Below n (plain t) → Below n (plain (list_term xs t))
list_below n [] t all one = one
list_below n (x ∷ xs) t all one = (all.0, (list_below n xs t all.1 one, tt))

pub list_last : (xs : List Plain) (x : Plain) (t : Term) → list_term (xs ++ x ∷ []) t ≡ list_term xs (term.Compound list_name (x ∷ plain t ∷ []))
list_last [] x t = refl
list_last (y ∷ xs) x t = ap (λ (r : Term). term.Compound list_name (y ∷ plain r ∷ [])) (list_last xs x t)

-- arguments, which have at most k nodes together
pub record FineArguments (n k : ℕ) (r : Row) : Type 0 where
  pub below : AllBelow n (plains r.items)
  pub nodes_few : nodes_of_all (plains r.items) ≤ k
  pub deep : depth_of_all (plains r.items) + 1 ≤ r.depth
  pub shallow : r.depth ≤ 4096

-- elements, which have at most k nodes together with their cells
pub record FineElements (n k : ℕ) (r : Row) : Type 0 where
  pub below : AllBelow n (plains r.items)
  pub nodes_few : nodes_of_all (plains r.items) + length r.items ≤ k
  pub deep : (t : Term) → depth (plain (list_term r.items t)) ≤ max r.depth (depth (plain t) + length r.items)
  pub shallow : r.depth ≤ 4096
  pub few : length r.items ≤ r.count
  pub long : length r.items ≤ r.depth
  pub small : r.count ≤ 2 ^ 64 - 1

pub no_arguments_fine : (n : ℕ) → FineArguments n 0 no_row
no_arguments_fine n = record { below = tt; nodes_few = omega arith; deep = omega arith; shallow = omega arith }

pub no_elements_fine : (n : ℕ) → FineElements n 0 no_row
no_elements_fine n = record { long = omega arith; below = tt; nodes_few = omega arith; deep = λ t. omega arith; shallow = omega arith; few = omega arith; small = omega arith }

arguments_more : (n j k : ℕ) (r : Row) → j ≤ k → FineArguments n j r → FineArguments n k r
arguments_more n j k r le h = record { below = h.below; nodes_few = omega (arith, h.nodes_few); deep = h.deep; shallow = h.shallow }

-- one argument more
with_term_arguments : (n j i k : ℕ) (r : Row) (m : Measured) → j + i ≤ k → FineArguments n j r → FineTerm n i m.term m.depth → FineArguments n k (with_term r m 1)
with_term_arguments n j i k r m le row one = by_fault (is_some r.fault)
  where
    kept : FineArguments n k r
    kept = arguments_more n j k r (omega arith) row

    by_depth : (b : Bool) → nat_lt 4096 (sum_of m.depth 1) ≡ b → FineArguments n k (cond b (failed r fault.Depth) (record r { items = r.items ++ plain m.term ∷ []; depth = max r.depth (sum_of m.depth 1) }))
    by_depth true e = record { below = kept.below; nodes_few = kept.nodes_few; deep = kept.deep; shallow = kept.shallow }
    by_depth false e = record {
      below = AllBelow-push n r.items (plain m.term) row.below one.below;
      nodes_few = omega (arith, nodes-push r.items (plain m.term), row.nodes_few, one.nodes_few);
      deep = omega (arith, depth-push r.items (plain m.term), row.deep, one.deep, one.shallow);
      shallow = omega (arith, row.shallow, one.shallow, below_limit);
    }
      where
        below_limit : sum_of m.depth 1 ≤ 4096
        below_limit = grind (arith, nat_tests)

    by_fault : (b : Bool) → FineArguments n k (cond b r (cond (nat_lt 4096 (sum_of m.depth 1)) (failed r fault.Depth) (record r { items = r.items ++ plain m.term ∷ []; depth = max r.depth (sum_of m.depth 1) })))
    by_fault true = kept
    by_fault false = by_depth (nat_lt 4096 (sum_of m.depth 1)) refl

with_item_arguments : (n j i k : ℕ) (r : Row) (b : Built) → j + i ≤ k → FineArguments n j r → Fine n i b → FineArguments n k (with_item r b 1)
with_item_arguments n j i k r (Faulty f) le row one =
    let kept = arguments_more n j k r (omega arith) row in
    record { below = kept.below; nodes_few = kept.nodes_few; deep = kept.deep; shallow = kept.shallow }
with_item_arguments n j i k r (Whole m) le row one =
    with_term_arguments n j i k (counted r) m le (record { below = row.below; nodes_few = row.nodes_few; deep = row.deep; shallow = row.shallow }) one

pub with_argument_fine : (n j i k : ℕ) (r : Row) (b : Built) → j + i ≤ k → FineArguments n j r → Fine n i b → FineArguments n k (with_argument r b)
with_argument_fine n j i k r b le row one = chosen (nat_le 255 r.count)
  where
    chosen : (t : Bool) → FineArguments n k (cond t (with_item (failed r fault.ArityLimit) b 1) (with_item r b 1))
    chosen true = with_item_arguments n j i k (failed r fault.ArityLimit) b le (record { below = row.below; nodes_few = row.nodes_few; deep = row.deep; shallow = row.shallow }) one
    chosen false = with_item_arguments n j i k r b le row one

pub compound_fine : (n j k : ℕ) (a : Atom) (r : Row) → j + 1 ≤ k → FineArguments n j r → Fine n k (compound_of a r)
compound_fine n j k a r le row = by_fault r.fault
  where
    by_fault : (f : Option TermFault) → Fine n k (compound_or a r f)
    by_fault None = of_depth_fine n k (term.Compound a r.items) r.depth row.below (omega (arith, row.nodes_few)) row.deep
    by_fault (Some f) = tt

elements_more : (n j k : ℕ) (r : Row) → j ≤ k → FineElements n j r → FineElements n k r
elements_more n j k r le h = record {
  below = h.below;
  nodes_few = omega (arith, h.nodes_few);
  deep = h.deep;
  shallow = h.shallow;
  few = h.few;
  long = h.long;
  small = h.small;
}

-- a row that counts one item more
counted_fine : (n j : ℕ) (r : Row) → FineElements n j r → FineElements n j (counted r)
counted_fine n j r h = record {
  below = h.below;
  nodes_few = h.nodes_few;
  deep = h.deep;
  shallow = h.shallow;
  few = omega (arith, h.few, h.small);
  long = h.long;
  small = omega arith;
}

failed_fine : (n j : ℕ) (r : Row) (f : TermFault) → FineElements n j r → FineElements n j (failed r f)
failed_fine n j r f h = record { below = h.below; nodes_few = h.nodes_few; deep = h.deep; shallow = h.shallow; few = h.few; long = h.long; small = h.small }

-- the element that is pushed, at its place
pushed_deep : (n j i : ℕ) (r : Row) (m : Measured) (t : Term) → FineElements n j r → FineTerm n i m.term m.depth → sum_of m.depth (sum_of r.count 1) ≤ 4096 → depth (plain (list_term (r.items ++ plain m.term ∷ []) t)) ≤ max (max r.depth (sum_of m.depth (sum_of r.count 1))) (depth (plain t) + length (r.items ++ plain m.term ∷ []))
pushed_deep n j i r m t row one low =
    rw (list_last r.items (plain m.term) t) (omega (arith, row.deep (term.Compound list_name (plain m.term ∷ plain t ∷ [])), one.deep, row.few, row.small, low, length-append r.items (plain m.term ∷ [])))

with_term_elements : (n j i k : ℕ) (r : Row) (m : Measured) → j + i + 1 ≤ k → FineElements n j r → FineTerm n i m.term m.depth → FineElements n k (with_term (counted r) m (sum_of r.count 1))
with_term_elements n j i k r m le row one = by_fault (is_some r.fault)
  where
    kept : FineElements n k (counted r)
    kept = elements_more n j k (counted r) (omega arith) (counted_fine n j r row)

    by_depth : (b : Bool) → nat_lt 4096 (sum_of m.depth (sum_of r.count 1)) ≡ b → FineElements n k (cond b (failed (counted r) fault.Depth) (record (counted r) { items = r.items ++ plain m.term ∷ []; depth = max r.depth (sum_of m.depth (sum_of r.count 1)) }))
    by_depth true e = failed_fine n k (counted r) fault.Depth kept
    by_depth false e = record {
      below = AllBelow-push n r.items (plain m.term) row.below one.below;
      nodes_few = omega (arith, nodes-push r.items (plain m.term), length-append r.items (plain m.term ∷ []), row.nodes_few, one.nodes_few);
      deep = λ t. pushed_deep n j i r m t row one below_limit;
      shallow = omega (arith, row.shallow, below_limit);
      few = omega (arith, row.few, row.small, below_limit, length-append r.items (plain m.term ∷ []));
      long = omega (arith, row.few, row.small, row.long, below_limit, length-append r.items (plain m.term ∷ []));
      small = omega arith;
    }
      where
        below_limit : sum_of m.depth (sum_of r.count 1) ≤ 4096
        below_limit = grind (arith, nat_tests)

    by_fault : (b : Bool) → FineElements n k (cond b (counted r) (cond (nat_lt 4096 (sum_of m.depth (sum_of r.count 1))) (failed (counted r) fault.Depth) (record (counted r) { items = r.items ++ plain m.term ∷ []; depth = max r.depth (sum_of m.depth (sum_of r.count 1)) })))
    by_fault true = kept
    by_fault false = by_depth (nat_lt 4096 (sum_of m.depth (sum_of r.count 1))) refl

-- one element more
pub with_element_fine : (n j i k : ℕ) (r : Row) (b : Built) → j + i + 1 ≤ k → FineElements n j r → Fine n i b → FineElements n k (with_element r b)
with_element_fine n j i k r (Faulty f) le row one =
    failed_fine n k (counted r) f (elements_more n j k (counted r) (omega arith) (counted_fine n j r row))
with_element_fine n j i k r (Whole m) le row one = with_term_elements n j i k r m le row one

pub list_fine : (n j i k : ℕ) (r : Row) (b : Built) → j + i ≤ k → FineElements n j r → Fine n i b → Fine n k (list_of r b)
list_fine n j i k r (Faulty f) le row one = tt
list_fine n j i k r (Whole m) le row one = by_fault r.fault
  where
    by_fault : (f : Option TermFault) → Fine n k (list_or r f m)
    by_fault None = of_depth_fine n k (list_term r.items m.term) (max r.depth (sum_of m.depth (length r.items))) (list_below n r.items m.term row.below one.below) (omega (arith, list_nodes r.items m.term, row.nodes_few, one.nodes_few)) (omega (arith, row.deep m.term, one.deep, one.shallow, row.long, row.shallow))
    by_fault (Some f) = tt
