-- One more clause of a text.
use Rattle.std.proofs.Common.{ℕ, ◌≡◌, ◌+◌, ◌<◌, Bool, true, false, suc, if◌then◌else◌, List, [], ◌∷◌, ◌++◌, Some, None, length, map, take, drop, get_or, refl, ap, sym, ◌∙◌, subst, arith, append-nil, append_assoc}
use Rattle.std.proofs.Math.Seq.{split_at}
use Rattle.std.proofs.lemmas.List.{map-append, take_more, length-take}
use Rattle.aq_base.specs.declared.refusal.FormKind.{FormKind}
use Rattle.aq_base.specs.declared.refusal.FormKind.TheVariants as kinds
use Rattle.aq_term.specs.PlainOf.{plain}
use Rattle.aq_term.specs.declared.entry.Entry.{Entry}
use Rattle.aq_term.specs.declared.read_term.ReadTerm.{ReadTerm}
use Rattle.source_program.specs.ClauseFaults.{form_fault}
use Rattle.source_program.specs.Forms.{HasModes, IsFormOf}
use Rattle.source_program.specs.Keys.{Key, HasKeys, entry_key}
use Rattle.source_program.specs.TextKeys.{Declared, numbered, declared, defined, declared_by, defined_by, declared_keys, entry_row, clause_row, entries_with, clauses_with, keys_with, is_declared}
use Rattle.std.specs.Prelude.{All}
use Rattle.std.proofs.lemmas.List.Elements.{All-push}
use Rattle.aq_base.specs.declared.refusal.Refusal.TheVariants as refusal
use Rattle.source_program.specs.declared.form_fault.FormFault.{FormFault}
use Rattle.source_program.specs.declared.form_fault.FormFault.TheVariants as form_faults
use Rattle.source_program.specs.declared.fault.GatherFault.{GatherFault}
use Rattle.source_program.specs.declared.fault.GatherFault.TheVariants as gather
use Rattle.source_program.specs.TextRefusals.{IsFaultBy, HaveForms, IsFirstFault, IsTextRefusal, fault_behind, second_fault}
use Rattle.source_program.specs.declared.clause_form.NamedClause.{NamedClause}
use Rattle.source_program.specs.declared.clause_form.ClauseForm.{ClauseForm}
use Rattle.source_program.specs.declared.clause_form.ClauseForm.TheVariants as form

pub numbered-push : {A : Type 0} (f : ℕ → ReadTerm → List A) (number : ℕ) (rs : List ReadTerm) (r : ReadTerm) →
    numbered f number (rs ++ r ∷ []) ≡ numbered f number rs ++ f (number + length rs) r
numbered-push f number [] r = append-nil (f number r) ∙ ap (λ (n : ℕ). f n r) (omega arith)
numbered-push f number (x ∷ rs) r =
    let same : (number + 1) + length rs ≡ number + length (x ∷ rs) = omega arith in
    ap (λ l. f number x ++ l) (numbered-push f (number + 1) rs r ∙ ap (λ (n : ℕ). numbered f (number + 1) rs ++ f n r) same)
    ∙ sym (append_assoc (f number x) (numbered f (number + 1) rs) (f (number + length (x ∷ rs)) r))

-- what is gathered of the first clauses of a text
pub record SoFar (cs : List ReadTerm) (es : List Entry) (ns : List NamedClause) (ks : List Key) : Type 0 where
  pub forms : HaveForms cs
  pub entries : map entry_row es ≡ declared cs
  pub clauses : map clause_row ns ≡ defined cs
  pub keys : ks ≡ declared_keys cs

pub so_far_none : SoFar [] [] [] []
so_far_none = record { forms = HaveForms.none; entries = refl; clauses = refl; keys = refl }

entry_by : (number : ℕ) (r : ReadTerm) (f : ClauseForm) → HasKeys (length r.names) (plain r.term) f → IsFormOf number f →
    (entries : List Entry) → map entry_row (entries_with f entries) ≡ map entry_row entries ++ declared_by number r
entry_by number r (form.Entry e) keys is entries =
    rw (keys.0, ← is.0) (map-append entry_row entries (e ∷ []))
entry_by number r (form.Clause c) keys is entries = rw keys.0 (sym (append-nil (map entry_row entries)))

clause_by : (number : ℕ) (r : ReadTerm) (f : ClauseForm) → HasKeys (length r.names) (plain r.term) f → IsFormOf number f →
    (clauses : List NamedClause) → map clause_row (clauses_with f clauses) ≡ map clause_row clauses ++ defined_by number r
clause_by number r (form.Entry e) keys is clauses = rw keys.1 (sym (append-nil (map clause_row clauses)))
clause_by number r (form.Clause c) keys is clauses =
    rw (keys.1, keys.2, ← is) (map-append clause_row clauses (c ∷ []))

keys_by : (number : ℕ) (r : ReadTerm) (f : ClauseForm) → HasKeys (length r.names) (plain r.term) f →
    (keys : List Key) → keys_with f keys ≡ keys ++ map (λ (d : Declared). d.key) (declared_by number r)
keys_by number r (form.Entry e) has keys = rw has.0 refl
keys_by number r (form.Clause c) has keys = rw has.0 (sym (append-nil keys))

-- a form is a second entry exactly where its key was declared before
second_by : (r : ReadTerm) (f : ClauseForm) (v : ℕ) (keys : List Key) (b : Bool) → HasKeys v (plain r.term) f → is_declared f keys ≡ b →
    second_fault keys (entry_key (plain r.term)) ≡ (if b then Some kinds.Directive else None)
second_by r (form.Entry e) v keys b has is = rw has.0 (rw is refl)
second_by r (form.Clause c) v keys b has is = rw (has.0, ← is) refl

pub so_far_more : (before : List ReadTerm) (r : ReadTerm) (f : ClauseForm) (entries : List Entry) (clauses : List NamedClause) (keys : List Key) →
    SoFar before entries clauses keys → form_fault (length r.names) (plain r.term) ≡ None →
    HasKeys (length r.names) (plain r.term) f → IsFormOf (length before + 1) f → is_declared f keys ≡ false →
    SoFar (before ++ r ∷ []) (entries_with f entries) (clauses_with f clauses) (keys_with f keys)
so_far_more before r f entries clauses keys so none has is new =
    let number : length before + 1 ≡ 1 + length before = omega arith in
    let is' : IsFormOf (1 + length before) f = subst (λ (n : ℕ). IsFormOf n f) number is in
    let second : second_fault (declared_keys before) (entry_key (plain r.term)) ≡ None =
    rw (← so.keys) (second_by r f (length r.names) keys false has new) in
    let fault : fault_behind before r ≡ None = rw none second in
    record {
      forms = HaveForms.more before r so.forms fault;
      entries = entry_by (1 + length before) r f has is' entries ∙ ap (λ l. l ++ declared_by (1 + length before) r) so.entries ∙ sym (numbered-push declared_by 1 before r);
      clauses = clause_by (1 + length before) r f has is' clauses ∙ ap (λ l. l ++ defined_by (1 + length before) r) so.clauses ∙ sym (numbered-push defined_by 1 before r);
      keys = keys_by (1 + length before) r f has keys
          ∙ ap (λ l. l ++ map (λ (d : Declared). d.key) (declared_by (1 + length before) r)) so.keys
          ∙ sym (map-append (λ (d : Declared). d.key) (declared before) (declared_by (1 + length before) r))
          ∙ ap (map (λ (d : Declared). d.key)) (sym (numbered-push declared_by 1 before r));
    }

-- the same for the clause at a place of a text
pub so_far_next : (cs : List ReadTerm) (i : ℕ) (r : ReadTerm) (f : ClauseForm) (entries : List Entry) (clauses : List NamedClause) (keys : List Key) →
    i < length cs → r ≡ get_or cs i r →
    SoFar (take i cs) entries clauses keys → form_fault (length r.names) (plain r.term) ≡ None →
    HasKeys (length r.names) (plain r.term) f → IsFormOf (i + 1) f → is_declared f keys ≡ false →
    SoFar (take (i + 1) cs) (entries_with f entries) (clauses_with f clauses) (keys_with f keys)
so_far_next cs i r f entries clauses keys below at so none has is new =
    let grown : take (i + 1) cs ≡ take i cs ++ r ∷ [] =
    take_more cs i r below ∙ ap (λ (x : ReadTerm). take i cs ++ x ∷ []) (sym at) in
    let count : i ≡ length (take i cs) = omega (arith, length-take i cs) in
    let is' : IsFormOf (length (take i cs) + 1) f = subst (λ (n : ℕ). IsFormOf (n + 1) f) count is in
    subst (λ (l : List ReadTerm). SoFar l (entries_with f entries) (clauses_with f clauses) (keys_with f keys)) (sym grown)
    (so_far_more (take i cs) r f entries clauses keys so none has is' new)

-- the first clause at fault
pub first_fault : (cs : List ReadTerm) (i : ℕ) (r : ReadTerm) (kind : FormKind) → i < length cs → r ≡ get_or cs i r →
    HaveForms (take i cs) → fault_behind (take i cs) r ≡ Some kind → IsFirstFault cs (i + 1) kind
first_fault cs i r kind below at forms fault = record {
  before = take i cs;
  read = r;
  after = drop (suc i) cs;
  split = split_at cs i r below ∙ ap (λ (x : ReadTerm). take i cs ++ x ∷ drop (suc i) cs) (sym at);
  number = let count : i ≡ length (take i cs) = omega (arith, length-take i cs) in omega (arith, count);
  forms = forms;
  fault = fault;
}

pub form_at_fault : (before : List ReadTerm) (r : ReadTerm) (kind : FormKind) → form_fault (length r.names) (plain r.term) ≡ Some kind →
    fault_behind before r ≡ Some kind
form_at_fault before r kind e = rw e refl

pub second_at_fault : (before : List ReadTerm) (r : ReadTerm) (f : ClauseForm) (keys : List Key) → keys ≡ declared_keys before →
    form_fault (length r.names) (plain r.term) ≡ None → HasKeys (length r.names) (plain r.term) f → is_declared f keys ≡ true →
    fault_behind before r ≡ Some kinds.Directive
second_at_fault before r f keys same none has is =
    rw (none, ← same) (second_by r f (length r.names) keys true has is)

-- what a form fault is answered with
pub form_refused : (f : FormFault) (g : GatherFault) (cs : List ReadTerm) (i : ℕ) (r : ReadTerm) →
    ((kind : FormKind) → f ≡ form_faults.Form kind → g ≡ gather.Refused (refusal.Form (i + 1) kind)) → (f ≡ form_faults.Memory → g ≡ gather.Memory) →
    ((kind : FormKind) → f ≡ form_faults.Form kind → form_fault (length r.names) (plain r.term) ≡ Some kind) →
    i < length cs → r ≡ get_or cs i r → HaveForms (take i cs) → IsFaultBy (IsTextRefusal cs) g
form_refused (form_faults.Form kind) g cs i r refused memory is below at forms =
    rw (refused kind refl)
    (IsTextRefusal.form (i + 1) kind (first_fault cs i r kind below at forms (form_at_fault (take i cs) r kind (is kind refl))))
form_refused form_faults.Memory g cs i r refused memory is below at forms = rw (memory refl) tt

-- what a second entry is answered with
pub second_refused : (g : GatherFault) (cs : List ReadTerm) (i : ℕ) (r : ReadTerm) (f : ClauseForm) (es : List Entry) (ns : List NamedClause) (ks : List Key) →
    IsFaultBy (λ x. (is_declared f ks ≡ true) × (x ≡ refusal.Form (i + 1) kinds.Directive)) g →
    SoFar (take i cs) es ns ks → form_fault (length r.names) (plain r.term) ≡ None → HasKeys (length r.names) (plain r.term) f →
    i < length cs → r ≡ get_or cs i r → IsFaultBy (IsTextRefusal cs) g
second_refused (gather.Refused x) cs i r f es ns ks h so none has below at =
    rw h.1
    (IsTextRefusal.form (i + 1) kinds.Directive
    (first_fault cs i r kinds.Directive below at so.forms (second_at_fault (take i cs) r f ks so.keys none has h.0)))
second_refused gather.Memory cs i r f es ns ks h so none has below at = tt

-- an entry has its modes
pub modes_with : (number : ℕ) (f : ClauseForm) (es : List Entry) → IsFormOf number f → All HasModes es → All HasModes (entries_with f es)
modes_with number (form.Entry e) es is all = All-push HasModes es e all is.1
modes_with number (form.Clause c) es is all = all
