-- What stands at the front of a text of rules is one.
use Rattle.std.proofs.Common.{◌≡◌, ◌≢◌, ℕ, suc, ◌+◌, Bool, false, List, [], ◌∷◌, ◌++◌, Some, ◌⊎◌, inl, inr, length, refl, sym, ◌∙◌, ap, append_assoc, arith}
use Rattle.std.specs.Prelude.{◌&&◌, ◌||◌, ◌==◌, not, nat_le, cond, IsTrue, codes}
use Rattle.std.specs.List.{list_all, list_any, prefix_len}
use Rattle.std.specs.Str.{bytes_eq}
use Rattle.std.proofs.lemmas.Bool.{and_parts}
use Rattle.std.proofs.lemmas.List.{take_at, drop_at, take-append-drop}
use Rattle.source_meaning.specs.Program.{Name, Clause}
use Rattle.source_meaning.specs.RuleText.{is_lower, is_word_byte, own_names, is_name, goals_text, body_text, WrittenClause, clauses_text, IsApart, AreWrittenClauses, is_gap, clauses_written}
use Rattle.source_meaning.specs.RuleFront.{behind_gap, behind_stop, word_of, behind_word, IsBody, IsClause, AreClauses}
use Rattle.source_meaning.proofs.RuleLayout.{behind_gap-lower, behind_stop-layout}

-- the bytes of a name
pub name_bytes : (name : Name) → IsTrue (is_name name) → IsTrue (list_all is_word_byte name)
name_bytes [] named = absurd (let bad : ⊥ = cc in bad)
name_bytes (byte ∷ bytes) named =
    let outer = and_parts (is_lower byte && list_all is_word_byte bytes) (not (list_any (bytes_eq (byte ∷ bytes)) own_names)) named in
    let inner = and_parts (is_lower byte) (list_all is_word_byte bytes) outer.0 in
    let first : Bool → Bool =
    λ lower.
    (lower || (nat_le 65 byte && nat_le byte 90) || (nat_le 48 byte && nat_le byte 57) || byte == 95)
    && list_all is_word_byte bytes in
    ap first inner.0 ∙ inner.1

-- what begins with a byte that no name holds
pub record Begins (bytes : List ℕ) : Type 0 where
  pub byte : ℕ
  pub more : List ℕ
  pub are : bytes ≡ byte ∷ more
  pub no_word : is_word_byte byte ≡ false

-- a run of word bytes ends where another byte stands
prefix_len-word : (word : List ℕ) (byte : ℕ) (after : List ℕ) → IsTrue (list_all is_word_byte word) → is_word_byte byte ≡ false
    → prefix_len is_word_byte (word ++ byte ∷ after) ≡ length word
prefix_len-word [] byte after are not_word = ap (λ (is_word : Bool). cond is_word (1 + prefix_len is_word_byte after) 0) not_word
prefix_len-word (first ∷ word) byte after are not_word =
    let both = and_parts (is_word_byte first) (list_all is_word_byte word) are in
    let rest = prefix_len-word word byte after both.1 not_word in
    let longer : ℕ = 1 + prefix_len is_word_byte (word ++ byte ∷ after) in
    let counted : longer ≡ suc (length word) = omega arith in
    ap (λ (is_word : Bool). cond is_word longer 0) both.0 ∙ counted

module _ (name rest : List ℕ) (named : IsTrue (is_name name)) (begins : Begins rest) where
  count_is : prefix_len is_word_byte (name ++ rest) ≡ length name
  count_is =
      ap (λ (rest : List ℕ). prefix_len is_word_byte (name ++ rest)) begins.are
      ∙ prefix_len-word name begins.byte begins.more (name_bytes name named) begins.no_word

  -- a name is the word at the front
  pub word_of-name : word_of (name ++ rest) ≡ name
  word_of-name = take_at name rest (prefix_len is_word_byte (name ++ rest)) (sym count_is)

  pub behind_word-name : behind_word (name ++ rest) ≡ rest
  behind_word-name = drop_at name rest (prefix_len is_word_byte (name ++ rest)) (sym count_is)

pub word_and_behind : (bytes : List ℕ) → bytes ≡ word_of bytes ++ behind_word bytes
word_and_behind bytes = sym (take-append-drop (prefix_len is_word_byte bytes) bytes)

-- two names at one front are one
pub same_name : (bytes name rest other more : List ℕ) → IsTrue (is_name name) → IsTrue (is_name other) → Begins rest → Begins more
    → bytes ≡ name ++ rest → bytes ≡ other ++ more → (name ≡ other) × (rest ≡ more)
same_name bytes name rest other more named also begins goes_on are again = (
  sym (word_of-name name rest named begins) ∙ ap word_of (sym are ∙ again) ∙ word_of-name other more also goes_on,
  sym (behind_word-name name rest named begins) ∙ ap behind_word (sym are ∙ again) ∙ behind_word-name other more also goes_on,
)

pub begins_goals : (goals : List Name) (after : List ℕ) → Begins (goals_text goals ++ (codes "." ++ after))
begins_goals [] after = record { byte = 46; more = after; are = refl; no_word = refl }
begins_goals (goal ∷ goals) after =
    record { byte = 44; more = 32 ∷ ((goal ++ goals_text goals) ++ (codes "." ++ after)); are = refl; no_word = refl }

pub begins_body : (goals : List Name) (after : List ℕ) → Begins (body_text goals ++ (codes "." ++ after))
begins_body [] after = record { byte = 46; more = after; are = refl; no_word = refl }
begins_body (goal ∷ goals) after =
    record { byte = 32; more = codes ":- " ++ ((goal ++ goals_text goals) ++ (codes "." ++ after)); are = refl; no_word = refl }

-- one goal more, and the same before a full stop
pub goals_front : (goal : Name) (goals : List Name) (after : List ℕ)
    → (goal ++ goals_text goals) ++ (codes "." ++ after) ≡ goal ++ (goals_text goals ++ (codes "." ++ after))
goals_front goal goals after = append_assoc goal (goals_text goals) (codes "." ++ after)

first_same : (a b : ℕ) (x y : List ℕ) → a ∷ x ≡ b ∷ y → a ≡ b
first_same a b x y same = cc

pub rest_same : (a b : ℕ) (x y : List ℕ) → a ∷ x ≡ b ∷ y → x ≡ y
rest_same a b x y same = cc

-- bytes that begin with a comma and with a full stop, or with a space and with a full stop, are not the same
pub unlike : (a b : ℕ) (x y : List ℕ) → a ≢ b → a ∷ x ≡ b ∷ y → ⊥
unlike a b x y other same = other (first_same a b x y same)

pub comma_stop : ◌≢◌ {A = ℕ} 44 46
comma_stop same = omega arith

pub space_stop : ◌≢◌ {A = ℕ} 32 46
space_stop same = omega arith

same_goals : (goals others : List Name) (after other : List ℕ) → IsTrue (list_all is_name goals) → IsTrue (list_all is_name others)
    → goals_text goals ++ (codes "." ++ after) ≡ goals_text others ++ (codes "." ++ other) → (goals ≡ others) × (after ≡ other)
same_goals [] [] after other names also same = (refl, rest_same 46 46 after other same)
same_goals [] (next ∷ others) after other names also same = absurd (unlike 44 46 _ _ comma_stop (sym same))
same_goals (goal ∷ goals) [] after other names also same = absurd (unlike 44 46 _ _ comma_stop same)
same_goals (goal ∷ goals) (next ∷ others) after other names also same =
    let first = and_parts (is_name goal) (list_all is_name goals) names in
    let second = and_parts (is_name next) (list_all is_name others) also in
    let behind : (goal ++ goals_text goals) ++ (codes "." ++ after) ≡ (next ++ goals_text others) ++ (codes "." ++ other) =
    rest_same 32 32 _ _ (rest_same 44 44 _ _ same) in
    let fronts =
    same_name ((goal ++ goals_text goals) ++ (codes "." ++ after)) goal (goals_text goals ++ (codes "." ++ after)) next
    (goals_text others ++ (codes "." ++ other)) first.0 second.0 (begins_goals goals after) (begins_goals others other)
    (goals_front goal goals after) (behind ∙ goals_front next others other) in
    let rest = same_goals goals others after other first.1 second.1 fronts.1 in
    (ap (λ (name : Name). name ∷ goals) fronts.0 ∙ ap (λ (names : List Name). next ∷ names) rest.0, rest.1)

same_body_text : (goals others : List Name) (after other : List ℕ) → IsTrue (list_all is_name goals) → IsTrue (list_all is_name others)
    → body_text goals ++ (codes "." ++ after) ≡ body_text others ++ (codes "." ++ other) → (goals ≡ others) × (after ≡ other)
same_body_text [] [] after other names also same = (refl, rest_same 46 46 after other same)
same_body_text [] (next ∷ others) after other names also same = absurd (unlike 32 46 _ _ space_stop (sym same))
same_body_text (goal ∷ goals) [] after other names also same = absurd (unlike 32 46 _ _ space_stop same)
same_body_text (goal ∷ goals) (next ∷ others) after other names also same =
    let behind : (goal ++ goals_text goals) ++ (codes "." ++ after) ≡ (next ++ goals_text others) ++ (codes "." ++ other) =
    rest_same 32 32 _ _ (rest_same 45 45 _ _ (rest_same 58 58 _ _ (rest_same 32 32 _ _ same))) in
    same_goals (goal ∷ goals) (next ∷ others) after other names also (ap (λ (bytes : List ℕ). codes ", " ++ bytes) behind)

-- goals at one front are one list, and what stands behind them is one
pub same_body : (bytes : List ℕ) (goals others : List Name) (after other : List ℕ) → IsBody bytes goals after → IsBody bytes others other
    → (goals ≡ others) × (after ≡ other)
same_body bytes goals others after other first second =
    same_body_text goals others after other first.names second.names (sym first.bytes_are ∙ second.bytes_are)

-- clauses at one front are one
pub same_clause : (bytes : List ℕ) (clause next : Clause) (after other : List ℕ) → IsClause bytes clause after → IsClause bytes next other
    → (clause ≡ next) × (after ≡ other)
same_clause bytes clause next after other first second =
    let names = and_parts (is_name clause.head) (list_all is_name clause.body) first.names in
    let also = and_parts (is_name next.head) (list_all is_name next.body) second.names in
    let heads =
    same_name bytes clause.head (body_text clause.body ++ (codes "." ++ after)) next.head (body_text next.body ++ (codes "." ++ other))
    names.0 also.0 (begins_body clause.body after) (begins_body next.body other) first.bytes_are second.bytes_are in
    let bodies = same_body_text clause.body next.body after other names.1 also.1 heads.1 in
    let of_head : Name → Clause = λ head. record { head = head; body = clause.body } in
    let of_body : List Name → Clause = λ body. record { head = next.head; body = body } in
    (ap of_head heads.0 ∙ ap of_body bodies.0, bodies.1)

-- what begins with a name begins with no layout
behind_gap-name : (name rest : List ℕ) → IsTrue (is_name name) → behind_gap false (name ++ rest) ≡ Some (name ++ rest)
behind_gap-name [] rest named = absurd (let bad : ⊥ = cc in bad)
behind_gap-name (byte ∷ bytes) rest named =
    let outer = and_parts (is_lower byte && list_all is_word_byte bytes) (not (list_any (bytes_eq (byte ∷ bytes)) own_names)) named in
    let inner = and_parts (is_lower byte) (list_all is_word_byte bytes) outer.0 in
    behind_gap-lower byte (bytes ++ rest) inner.0

-- written clauses begin with no layout
behind_gap-clauses : (written : List WrittenClause) → AreWrittenClauses written → behind_gap false (clauses_text written) ≡ Some (clauses_text written)
behind_gap-clauses [] are = refl
behind_gap-clauses (written ∷ more) are =
    let names = and_parts (is_name written.clause.head) (list_all is_name written.clause.body) are.0 in
    behind_gap-name written.clause.head (body_text written.clause.body ++ (codes "." ++ (written.layout ++ clauses_text more))) names.0

apart_text : (layout : List ℕ) (more : List WrittenClause) → IsApart layout more → (clauses_text more ≡ []) ⊎ (layout ≢ [])
apart_text layout more apart = elim apart [ inl none ↦ inl (ap clauses_text none) | inr some ↦ inr some ]

-- behind a full stop the layout is gone over, up to the next clause or the end
pub behind_stop-clauses : (layout : List ℕ) (more : List WrittenClause) → IsTrue (is_gap layout) → IsApart layout more → AreWrittenClauses more
    → behind_stop (layout ++ clauses_text more) ≡ Some (clauses_text more)
behind_stop-clauses layout more layout_is apart are =
    behind_stop-layout layout (clauses_text more) layout_is (apart_text layout more apart) (behind_gap-clauses more are)

-- what is known of clauses where there are bytes
pub record FirstClause (bytes : List ℕ) (clauses : List Clause) : Type 0 where
  pub clause : Clause
  pub after : List ℕ
  pub rest : List ℕ
  pub later : List Clause
  pub first : IsClause bytes clause after
  pub stop : behind_stop after ≡ Some rest
  pub others : AreClauses rest later
  pub clauses_are : clauses ≡ clause ∷ later

first_of_written : (bytes : List ℕ) (clauses : List Clause) (written : List WrittenClause) → bytes ≡ clauses_text written
    → AreWrittenClauses written → clauses ≡ clauses_written written → bytes ≢ [] → FirstClause bytes clauses
first_of_written bytes clauses [] bytes_are are clauses_are some = absurd (some bytes_are)
first_of_written bytes clauses (written ∷ more) bytes_are are clauses_are some =
    record {
      clause = written.clause;
      after = written.layout ++ clauses_text more;
      rest = clauses_text more;
      later = clauses_written more;
      first = record { bytes_are = bytes_are; names = are.0 };
      stop = behind_stop-clauses written.layout more are.1 are.2 are.3;
      others = record { written = more; bytes_are = refl; are_written = are.3; clauses_are = refl };
      clauses_are = clauses_are;
    }

pub first_clause : (bytes : List ℕ) (clauses : List Clause) → AreClauses bytes clauses → bytes ≢ [] → FirstClause bytes clauses
first_clause bytes clauses are some = first_of_written bytes clauses are.written are.bytes_are are.are_written are.clauses_are some

pub nothing_left : (name rest : List ℕ) → IsTrue (is_name name) → [] ≡ name ++ rest → ⊥
nothing_left [] rest named none = let bad : ⊥ = cc in bad
nothing_left (byte ∷ name) rest named none = let bad : ⊥ = cc in bad

no_clauses_written : (clauses : List Clause) (written : List WrittenClause) → [] ≡ clauses_text written → AreWrittenClauses written
    → clauses ≡ clauses_written written → clauses ≡ []
no_clauses_written clauses [] bytes_are are clauses_are = clauses_are
no_clauses_written clauses (written ∷ more) bytes_are are clauses_are =
    absurd (nothing_left written.clause.head _ (and_parts (is_name written.clause.head) (list_all is_name written.clause.body) are.0).0 bytes_are)

-- no clause stands in nothing
pub no_clauses : (clauses : List Clause) → AreClauses [] clauses → clauses ≡ []
no_clauses clauses are = no_clauses_written clauses are.written are.bytes_are are.are_written are.clauses_are
