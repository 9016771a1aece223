-- From the words of a clause to its term.
use Rattle.std.proofs.Common.{◌≡◌, ℕ, ◌+◌, ◌-◌, ◌<◌, ◌≤◌, Bool, true, false, cond, List, [], ◌∷◌, length, take, Option, Some, refl, sym, ap, ◌∙◌, arith, sum_by}
use Rattle.std.specs.Prelude.{All}
use Rattle.std.specs.List.{AllByRecursion}
use Rattle.std.proofs.lemmas.List.Elements.{recursion_from_All, All-take}
use Rattle.std.proofs.lemmas.List.Sums.{sum_by-cons}
use Rattle.aq_term.specs.declared.term.Term.{Term}
use Rattle.aq_term.specs.declared.read_term.ReadTerm.{ReadTerm}
use Rattle.prolog_tokens.specs.Scan.{weight_of, total_weight, ends_with_end, without_end}
use Rattle.prolog_tokens.specs.declared.token.Token.{Token}
use Rattle.prolog_tokens.specs.declared.token.Token.TheVariants as token
use Rattle.prolog_tokens.specs.declared.placed.Placed.{Placed}
use Rattle.prolog_reader.specs.declared.word.Word.{Word}
use Rattle.prolog_reader.specs.declared.built.Measured.{Measured}
use Rattle.prolog_reader.specs.declared.built.Built.TheVariants.{Whole}
use Rattle.prolog_reader.specs.Words.{IsBelow}
use Rattle.prolog_reader.specs.Machine.{read_of}
use Rattle.prolog_reader.specs.Readable.{IsReadable}
use Rattle.prolog_reader.proofs.FineSteps.{read_fine}

abbrev pub IsWeighed : Placed → Type 0
IsWeighed p = p.weight ≡ weight_of p.token

-- each token weighs something
weight_some : (t : Token) → 1 ≤ weight_of t
weight_some (token.Codes text) = omega arith
weight_some (token.Name text quoted) = omega arith
weight_some (token.Variable text) = omega arith
weight_some (token.Integer n) = omega arith
weight_some token.WideInteger = omega arith
weight_some (token.Punct b) = omega arith
weight_some token.End = omega arith

weights : (ps : List Placed) → AllByRecursion IsWeighed ps → (sum_by (λ (p : Placed). weight_of p.token) ps ≡ total_weight ps) × (length ps ≤ total_weight ps)
weights [] all = (refl, omega arith)
weights (p ∷ ps) all =
    let rest = weights ps all.1 in
    let is : p.weight ≡ weight_of p.token = all.0 in
    (omega (arith, sum_by-cons (λ (q : Placed). weight_of q.token) p ps, sum_by-cons (λ (q : Placed). q.weight) p ps, rest.0, is), omega (arith, sum_by-cons (λ (q : Placed). q.weight) p ps, rest.1, is, weight_some p.token))

-- the term of words that were made of weighed tokens
pub readable : (ps : List Placed) (ws : List Word) (m : Measured) (names : List (List ℕ)) (weight : ℕ) → All IsWeighed ps → All (IsBelow (length names)) ws → read_of ws ≡ Some (Whole m) → length ws ≤ sum_by (λ (p : Placed). weight_of p.token) ps → length names ≤ length ps → IsReadable (record { term = m.term; names = names; weight = weight }) (total_weight ps)
readable ps ws m names weight weighed low is count few =
    let h = read_fine (length names) ws (Whole m) low is in
    let w = weights ps (recursion_from_All IsWeighed ps weighed) in
    record {
      below = h.below;
      shallow = omega (arith, h.deep, h.shallow);
      light = omega (arith, h.nodes_few, count, w.0);
      few = omega (arith, few, w.1);
    }

pub weighed-without_end : (ps : List Placed) → All IsWeighed ps → All IsWeighed (without_end ps)
weighed-without_end ps all =
    let case : (b : Bool) → All IsWeighed (cond b (take (length ps - 1) ps) ps) =
    λ b. elim b as (λ v. All IsWeighed (cond v (take (length ps - 1) ps) ps)) [ true ↦ All-take IsWeighed (length ps - 1) ps all | false ↦ all ] in
    case (ends_with_end ps)

pub IsReadable-more : (r : ReadTerm) (j k : ℕ) → j ≤ k → IsReadable r j → IsReadable r k
IsReadable-more r j k le h = record { below = h.below; shallow = h.shallow; light = omega (arith, h.light); few = omega (arith, h.few) }
