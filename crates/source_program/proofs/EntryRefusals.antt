-- Entries and the predicates that have clauses.
use Rattle.std.proofs.Common.{ℕ, ◌≡◌, ◌≢◌, ◌+◌, ◌<◌, zero, suc, Bool, true, false, ◌||◌, cond, nat_eq, List, [], ◌∷◌, ◌++◌, length, map, take, drop, get_or, refl, ap, sym, ◌∙◌, subst, arith}
use Rattle.std.specs.Prelude.{All}
use Rattle.std.proofs.Math.Seq.{split_at}
use Rattle.std.proofs.lemmas.Bool.Decides.{nat_tests}
use Rattle.std.proofs.lemmas.List.{map-append, length-take, length-map, get_or-take}
use Rattle.std.proofs.lemmas.List.Folds.{list_any-append}
use Rattle.aq_term.specs.declared.entry.Entry.{Entry}
use Rattle.source_program.specs.Keys.{Key}
use Rattle.source_program.specs.KeySets.{same_key, is_among, with_key}
use Rattle.source_program.specs.TextKeys.{Declared, Defined, declared, defined, entry_row, clause_row, clause_key_row}
use Rattle.aq_base.specs.declared.refusal.Refusal.{Refusal}
use Rattle.aq_term.specs.declared.read_term.ReadTerm.{ReadTerm}
use Rattle.source_program.specs.Limits.{KeptLimits, PassesLimit, IsLimit}
use Rattle.source_program.specs.TextRefusals.{IsFirstUndefined, IsKnown, IsEntryRefusal, IsTextRefusal, IsText, IsFaultBy, HaveForms, has_clause}
use Rattle.source_program.specs.declared.fault.GatherFault.{GatherFault}
use Rattle.source_program.specs.declared.fault.GatherFault.TheVariants as gather
use Rattle.source_program.specs.declared.clause_form.NamedClause.{NamedClause}

-- keys that are the same are the same for others
same_key-through : (a b k : Key) → same_key k b ≡ true → same_key b a ≡ true → same_key k a ≡ true
same_key-through a b k e f = grind (arith, nat_tests)

is_among-through : (ks : List Key) (k l : Key) → same_key k l ≡ true → is_among ks l ≡ true → is_among ks k ≡ true
is_among-through [] k l e f = cc
is_among-through (a ∷ ks) k l e f =
    let case : (b c : Bool) → same_key l a ≡ b → is_among ks l ≡ c → (b || c) ≡ true → is_among (a ∷ ks) k ≡ true =
    λ b c. elim b as (λ v. same_key l a ≡ v → is_among ks l ≡ c → (v || c) ≡ true → is_among (a ∷ ks) k ≡ true) [
      | true ↦ λ g h i. rw (same_key-through a l k e g) refl
      | false ↦ λ g h i. rw (is_among-through ks k l e (h ∙ i)) (or-true (same_key k a))
    ] in
    case (same_key l a) (is_among ks l) refl refl f
  where
    or-true : (b : Bool) → (b || true) ≡ true
    or-true true = refl
    or-true false = refl

-- a key is among those with one more where it was there or is the same as that
pub is_among-with_key : (ks : List Key) (l k : Key) → is_among (with_key ks l) k ≡ (is_among ks k || same_key k l)
is_among-with_key ks l k =
    let case : (b : Bool) → is_among ks l ≡ b → is_among (cond b ks (ks ++ l ∷ [])) k ≡ (is_among ks k || same_key k l) =
    λ b. elim b as (λ v. is_among ks l ≡ v → is_among (cond v ks (ks ++ l ∷ [])) k ≡ (is_among ks k || same_key k l)) [
      | true ↦ λ there. absorbed (is_among ks k) (same_key k l) (λ e. is_among-through ks k l e there)
      | false ↦ λ there. list_any-append (same_key k) ks (l ∷ []) ∙ ap (λ (b : Bool). is_among ks k || b) (or-false (same_key k l))
    ] in
    case (is_among ks l) refl
  where
    absorbed : (a b : Bool) → (b ≡ true → a ≡ true) → a ≡ (a || b)
    absorbed true b h = refl
    absorbed false true h = h refl
    absorbed false false h = refl

    or-false : (b : Bool) → (b || false) ≡ b
    or-false true = refl
    or-false false = refl

-- the same of the predicates of one more clause
pub is_among-push : (ks : List Key) (cs : List NamedClause) (c : NamedClause) (k : Key) →
    is_among ks k ≡ is_among (map clause_key_row cs) k →
    is_among (with_key ks (clause_key_row c)) k ≡ is_among (map clause_key_row (cs ++ c ∷ [])) k
is_among-push ks cs c k e =
    is_among-with_key ks (clause_key_row c) k
    ∙ ap (λ (b : Bool). b || same_key k (clause_key_row c)) e
    ∙ sym (ap (λ l. is_among l k) (map-append clause_key_row cs (c ∷ []))
    ∙ list_any-append (same_key k) (map clause_key_row cs) (clause_key_row c ∷ [])
    ∙ ap (λ (b : Bool). is_among (map clause_key_row cs) k || b) (or-false (same_key k (clause_key_row c))))
  where
    or-false : (b : Bool) → (b || false) ≡ b
    or-false true = refl
    or-false false = refl

-- the keys of rows of clauses
pub keys_of_rows : (cs : List NamedClause) → map (λ (d : Defined). d.key) (map clause_row cs) ≡ map clause_key_row cs
keys_of_rows [] = refl
keys_of_rows (c ∷ cs) = ap (λ l. clause_key_row c ∷ l) (keys_of_rows cs)

-- what holds of each entry below a place holds of the rows before it
pub known_rows : (known : Key → Bool) (es : List Entry) →
    ((k : ℕ) (d : Entry) → k < length es → known (entry_row (get_or es k d)).key ≡ true) → All (IsKnown known) (map entry_row es)
known_rows known [] h = λ k d below. absurd (omega arith)
known_rows known (e ∷ es) h = λ k d below.
    let inside : k < length (e ∷ es) = omega (arith, below, length-map (e ∷ es) entry_row) in
    let here : get_or (map entry_row (e ∷ es)) k d ≡ entry_row (get_or (e ∷ es) k e) = row_at (e ∷ es) k d e inside in
    subst (λ (r : Declared). known r.key ≡ true) (sym here) (h k e inside)
  where
    row_at : (es : List Entry) (k : ℕ) (d : Declared) (e : Entry) → k < length es → get_or (map entry_row es) k d ≡ entry_row (get_or es k e)
    row_at [] k d e below = absurd (omega (arith, below))
    row_at (x ∷ es) zero d e below = refl
    row_at (x ∷ es) (suc k) d e below = let less : k < length es = omega (arith, below) in row_at es k d e less

-- the first entry without a clause
pub first_undefined : (known : Key → Bool) (es : List Entry) (i : ℕ) (e : Entry) → i < length es → e ≡ get_or es i e →
    ((k : ℕ) (d : Entry) → k < i → known (entry_row (get_or es k d)).key ≡ true) → known (entry_row e).key ≡ false →
    IsFirstUndefined (map entry_row es) known e.clause
first_undefined known es i e below at before unknown = record {
  before = map entry_row (take i es);
  row = entry_row e;
  after = map entry_row (drop (suc i) es);
  split = ap (map entry_row) (split_at es i e below ∙ ap (λ (x : Entry). take i es ++ x ∷ drop (suc i) es) (sym at))
      ∙ map-append entry_row (take i es) (e ∷ drop (suc i) es);
  number = refl;
  defined = known_rows known (take i es) (λ k d inside.
      let less : k < i = omega (arith, inside, length-take i es, length-map (take i es) entry_row) in
      subst (λ (x : Entry). known (entry_row x).key ≡ true) (sym (get_or-take i es k d less)) (before k d less));
  undefined = unknown;
}

-- what the entries are refused for
entry_text : (r : Refusal) (cs : List ReadTerm) (rows : List Declared) (known : Key → Bool) → IsEntryRefusal rows known r →
    rows ≡ declared cs → ((k : Key) → known k ≡ has_clause cs k) → HaveForms cs → KeptLimits (defined cs) → IsTextRefusal cs r
entry_text _ cs rows known (IsEntryRefusal.no_entry e) same agree forms kept = IsTextRefusal.no_entry forms kept (sym same ∙ e)
entry_text _ cs rows known (IsEntryRefusal.undefined clause first) same agree forms kept =
    IsTextRefusal.entry_undefined clause forms kept
    (record {
      before = first.before;
      row = first.row;
      after = first.after;
      split = sym same ∙ first.split;
      number = first.number;
      defined = λ k d below. sym (agree (get_or first.before k d).key) ∙ first.defined k d below;
      undefined = sym (agree first.row.key) ∙ first.undefined;
    })

pub entry_refused : (g : GatherFault) (cs : List ReadTerm) (rows : List Declared) (known : Key → Bool) →
    IsFaultBy (IsEntryRefusal rows known) g → rows ≡ declared cs → ((k : Key) → known k ≡ has_clause cs k) →
    HaveForms cs → KeptLimits (defined cs) → IsFaultBy (IsTextRefusal cs) g
entry_refused (gather.Refused r) cs rows known h same agree forms kept = entry_text r cs rows known h same agree forms kept
entry_refused gather.Memory cs rows known h same agree forms kept = tt

limit_text : (r : Refusal) (cs : List ReadTerm) (rows : List Defined) → IsLimit rows r → rows ≡ defined cs → HaveForms cs → IsTextRefusal cs r
limit_text _ cs rows (IsLimit.passed clause kind passes) same forms =
    IsTextRefusal.limit clause kind forms (subst (λ (l : List Defined). PassesLimit l clause kind) same passes)

pub limit_refused : (g : GatherFault) (cs : List ReadTerm) (rows : List Defined) → IsFaultBy (IsLimit rows) g → rows ≡ defined cs →
    HaveForms cs → IsFaultBy (IsTextRefusal cs) g
limit_refused (gather.Refused r) cs rows h same forms = limit_text r cs rows h same forms
limit_refused gather.Memory cs rows h same forms = tt

-- the predicates that were gathered are those that have clauses
pub known_agree : (cs : List ReadTerm) (ns : List NamedClause) (ks : List Key) →
    ((k : Key) → is_among ks k ≡ is_among (map clause_key_row ns) k) → map clause_row ns ≡ defined cs →
    (k : Key) → is_among ks k ≡ has_clause cs k
known_agree cs ns ks h same k =
    h k ∙ ap (λ (l : List Key). is_among l k) (sym (keys_of_rows ns) ∙ ap (map (λ (d : Defined). d.key)) same)

pub is_text : (cs : List ReadTerm) (rows : List Declared) (known : Key → Bool) → HaveForms cs → KeptLimits (defined cs) →
    rows ≡ declared cs → ((k : Key) → known k ≡ has_clause cs k) → rows ≢ [] → All (IsKnown known) rows → IsText cs
is_text cs rows known forms kept same agree some all = record {
  forms = forms;
  limits = kept;
  entered = λ e. some (same ∙ e);
  defined = subst (λ (l : List Declared). All (IsKnown (has_clause cs)) l) same (λ k d below. sym (agree (get_or rows k d).key) ∙ all k d below);
}

-- no entries, no rows
pub empty_rows : (es : List Entry) → true ≡ nat_eq (length es) 0 → map entry_row es ≡ []
empty_rows [] h = refl
empty_rows (e ∷ es) h = let bad : ⊥ = some (length es) (length (e ∷ es)) (omega arith) h in absurd bad
  where
    some : (n m : ℕ) → m ≡ n + 1 → true ≡ nat_eq m 0 → ⊥
    some n m e h = grind (arith, nat_tests)
