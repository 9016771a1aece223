-- One more clause, and what its limits say.
use Rattle.std.proofs.Common.{ℕ, ◌≡◌, ◌+◌, ◌<◌, suc, List, [], ◌∷◌, ◌++◌, Some, None, length, map, take, drop, get_or, refl, ap, sym, ◌∙◌}
use Rattle.std.proofs.Math.Seq.{split_at}
use Rattle.std.proofs.lemmas.List.{map-append, take_more}
use Rattle.aq_base.specs.declared.refusal.LimitKind.{LimitKind}
use Rattle.aq_base.specs.declared.refusal.Refusal.TheVariants as refusal
use Rattle.source_program.specs.Limits.{Counts, KeepLimits, KeptLimits, IsLimit, arguments_of, limit_of}
use Rattle.source_program.specs.TextKeys.{Defined, clause_row}
use Rattle.source_program.specs.declared.clause_form.NamedClause.{NamedClause}

-- clauses that keep the limits, and their total
pub record Kept (ns : List NamedClause) (sum : ℕ) : Type 0 where
  pub counts : List Counts
  pub arguments : arguments_of counts ≡ map (λ (r : Defined). r.arguments) (map clause_row ns)
  pub keep : KeepLimits counts sum

pub kept_none : Kept [] 0
kept_none = record { counts = []; arguments = refl; keep = KeepLimits.none }

pub kept_more : (ns : List NamedClause) (sum i : ℕ) (n : NamedClause) (c : Counts) → i < length ns → n ≡ get_or ns i n →
    Kept (take i ns) sum → c.arguments ≡ n.clause.most_arguments → None ≡ limit_of c sum → Kept (take (i + 1) ns) (sum + c.kernel.total)
kept_more ns sum i n c below at kept same none =
    let grown : take (i + 1) ns ≡ take i ns ++ n ∷ [] = take_more ns i n below ∙ ap (λ (x : NamedClause). take i ns ++ x ∷ []) (sym at) in
    record {
      counts = kept.counts ++ c ∷ [];
      arguments = map-append (λ (d : Counts). d.arguments) kept.counts (c ∷ [])
          ∙ ap (λ l. l ++ c.arguments ∷ []) kept.arguments
          ∙ ap (λ (a : ℕ). map (λ (r : Defined). r.arguments) (map clause_row (take i ns)) ++ a ∷ []) same
          ∙ sym (map-append (λ (r : Defined). r.arguments) (map clause_row (take i ns)) (clause_row n ∷ []))
          ∙ ap (map (λ (r : Defined). r.arguments)) (sym (map-append clause_row (take i ns) (n ∷ [])) ∙ ap (map clause_row) (sym grown));
      keep = KeepLimits.more kept.counts sum c kept.keep (sym none);
    }

pub kept_limits : (ns : List NamedClause) (sum : ℕ) → Kept ns sum → KeptLimits (map clause_row ns)
kept_limits ns sum kept = record { counts = kept.counts; total = sum; arguments = kept.arguments; keep = kept.keep }

pub passes_limit : (ns : List NamedClause) (sum i : ℕ) (n : NamedClause) (c : Counts) (kind : LimitKind) → i < length ns → n ≡ get_or ns i n →
    Kept (take i ns) sum → c.arguments ≡ n.clause.most_arguments → Some kind ≡ limit_of c sum →
    IsLimit (map clause_row ns) (refusal.Limit n.clause.number kind)
passes_limit ns sum i n c kind below at kept same passed =
    IsLimit.passed n.clause.number kind
    (record {
      before = map clause_row (take i ns);
      row = clause_row n;
      after = map clause_row (drop (suc i) ns);
      split = ap (map clause_row) (split_at ns i n below ∙ ap (λ (x : NamedClause). take i ns ++ x ∷ drop (suc i) ns) (sym at))
          ∙ map-append clause_row (take i ns) (n ∷ drop (suc i) ns);
      number = refl;
      counts = kept.counts;
      total = sum;
      arguments = kept.arguments;
      keep = kept.keep;
      last = c;
      last_arguments = same;
      passed = sym passed;
    })
