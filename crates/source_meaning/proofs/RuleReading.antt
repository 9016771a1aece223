-- How a text of rules is read from its front on, and that it has one reading.
use Rattle.std.proofs.Common.{◌≡◌, ◌≢◌, ℕ, false, List, [], ◌∷◌, ◌++◌, Some, ◌⊎◌, inl, inr, refl, sym, ◌∙◌, ap, subst}
use Rattle.std.specs.Prelude.{IsTrue, codes}
use Rattle.std.proofs.lemmas.Bool.{and_parts}
use Rattle.std.specs.List.{list_all}
use Rattle.source_meaning.specs.Program.{Name, Clause, Program}
use Rattle.source_meaning.specs.RuleText.{is_name, is_rule, body_text, WrittenClause, clauses_text, IsApart, AreWrittenClauses, clauses_written, IsRuleText}
use Rattle.source_meaning.specs.RuleFront.{behind_gap, behind_stop, IsClause, AreClauses, IsEntry}
use Rattle.source_meaning.proofs.RuleLayout.{lead_of, behind_gap-layout, stop_of}
use Rattle.source_meaning.proofs.RuleFronts.{Begins, same_name, same_clause, nothing_left, first_clause, no_clauses, behind_stop-clauses}

head_named : (clause : Clause) → IsTrue (is_rule clause) → IsTrue (is_name clause.head)
head_named clause names = (and_parts (is_name clause.head) (list_all is_name clause.body) names).0

-- some layout stands in front of clauses, unless there are none
apart_clauses : (rest layout : List ℕ) (written : List WrittenClause) → rest ≡ clauses_text written → AreWrittenClauses written
    → (rest ≡ []) ⊎ (layout ≢ []) → IsApart layout written
apart_clauses rest layout [] are named apart = inl refl
apart_clauses rest layout (written ∷ more) are named (inl none) =
    absurd (nothing_left written.clause.head _ (head_named written.clause named.0) (sym none ∙ are))
apart_clauses rest layout (written ∷ more) are named (inr some) = inr some

-- a clause in front of others
pub more_clauses : (bytes : List ℕ) (clause : Clause) (after rest : List ℕ) (clauses : List Clause) → IsClause bytes clause after
    → behind_stop after ≡ Some rest → AreClauses rest clauses → AreClauses bytes (clause ∷ clauses)
more_clauses bytes clause after rest clauses first stop others =
    let stopped = stop_of after rest stop in
    let tail : List ℕ = body_text clause.body in
    record {
      written = record { clause = clause; layout = stopped.layout } ∷ others.written;
      bytes_are =
          first.bytes_are
          ∙ ap (λ (after : List ℕ). clause.head ++ (tail ++ (codes "." ++ after)))
          (stopped.bytes_are ∙ ap (λ (rest : List ℕ). stopped.layout ++ rest) others.bytes_are);
      are_written = (
        first.names,
        stopped.layout_is,
        apart_clauses rest stopped.layout others.written others.bytes_are others.are_written stopped.apart,
        others.are_written,
      );
      clauses_are = ap (λ (later : List Clause). clause ∷ later) others.clauses_are;
    }

pub some_same : (rest other : List ℕ) → Some rest ≡ Some other → rest ≡ other
some_same rest other same = cc

-- clauses up to the end are one list
same_clauses_written : (written : List WrittenClause) (bytes : List ℕ) (others : List Clause) → bytes ≡ clauses_text written
    → AreWrittenClauses written → AreClauses bytes others → clauses_written written ≡ others
same_clauses_written [] bytes others bytes_are are also =
    sym (no_clauses others (subst (λ (bytes : List ℕ). AreClauses bytes others) bytes_are also))
same_clauses_written (written ∷ more) bytes others bytes_are are also =
    let after : List ℕ = written.layout ++ clauses_text more in
    let some : bytes ≢ [] =
    λ none. nothing_left written.clause.head _ (head_named written.clause are.0) (sym none ∙ bytes_are) in
    let next = first_clause bytes others also some in
    let first : IsClause bytes written.clause after = record { bytes_are = bytes_are; names = are.0 } in
    let same = same_clause bytes written.clause next.clause after next.after first next.first in
    let rests : clauses_text more ≡ next.rest =
    some_same (clauses_text more) next.rest
    (sym (behind_stop-clauses written.layout more are.1 are.2 are.3) ∙ ap behind_stop same.1 ∙ next.stop) in
    ap (λ (clause : Clause). clause ∷ clauses_written more) same.0
    ∙ ap (λ (later : List Clause). next.clause ∷ later)
    (same_clauses_written more next.rest next.later (sym rests) are.3 next.others)
    ∙ sym next.clauses_are

pub same_clauses : (bytes : List ℕ) (clauses others : List Clause) → AreClauses bytes clauses → AreClauses bytes others → clauses ≡ others
same_clauses bytes clauses others are also =
    are.clauses_are ∙ same_clauses_written are.written bytes others are.bytes_are are.are_written also

-- what stands behind the front of an entry is the same
pub same_front : (rest other : List ℕ) → Some (codes ":- entry(" ++ rest) ≡ Some (codes ":- entry(" ++ other) → rest ≡ other
same_front rest other same = cc

same_stop : (after more : List ℕ) → codes ")." ++ after ≡ codes ")." ++ more → after ≡ more
same_stop after more same = cc

pub begins_stop : (after : List ℕ) → Begins (codes ")." ++ after)
begins_stop after = record { byte = 41; more = 46 ∷ after; are = refl; no_word = refl }

-- entries at one front are one
pub same_entry : (text : List ℕ) (entry other : Name) (after more : List ℕ) → IsEntry text entry after → IsEntry text other more
    → (entry ≡ other) × (after ≡ more)
same_entry text entry other after more first second =
    let behind : entry ++ (codes ")." ++ after) ≡ other ++ (codes ")." ++ more) =
    same_front (entry ++ (codes ")." ++ after)) (other ++ (codes ")." ++ more)) (sym first.front ∙ second.front) in
    let names =
    same_name (entry ++ (codes ")." ++ after)) entry (codes ")." ++ after) other (codes ")." ++ more) first.is_name second.is_name
    (begins_stop after) (begins_stop more) refl behind in
    (names.0, same_stop after more names.1)

-- the parts of a text of rules, from the front on
pub record Parts (text : List ℕ) (program : Program) : Type 0 where
  pub after : List ℕ
  pub rest : List ℕ
  pub entry : IsEntry text program.entry after
  pub stop : behind_stop after ≡ Some rest
  pub clauses : AreClauses rest program.clauses

-- each reading has these parts
pub reading_parts : (text : List ℕ) (program : Program) → IsRuleText text program → Parts text program
reading_parts text program reading =
    let after : List ℕ = reading.layout ++ clauses_text reading.clauses in
    let entry : List ℕ = codes ":- entry(" ++ (program.entry ++ (codes ")." ++ after)) in
    record {
      after = after;
      rest = clauses_text reading.clauses;
      entry = record { front = ap (behind_gap false) reading.text_is ∙ behind_gap-layout false reading.lead entry reading.lead_is; is_name = reading.entry_is_name };
      stop = behind_stop-clauses reading.layout reading.clauses reading.layout_is reading.apart reading.clauses_are_written;
      clauses = record { written = reading.clauses; bytes_are = refl; are_written = reading.clauses_are_written; clauses_are = reading.clauses_are };
    }

-- and these parts make a reading
pub parts_reading : (text : List ℕ) (program : Program) → Parts text program → IsRuleText text program
parts_reading text program parts =
    let entry : List ℕ → List ℕ = λ after. codes ":- entry(" ++ (program.entry ++ (codes ")." ++ after)) in
    let lead = lead_of false text (entry parts.after) parts.entry.front in
    let stopped = stop_of parts.after parts.rest parts.stop in
    record {
      lead = lead.layout;
      layout = stopped.layout;
      clauses = parts.clauses.written;
      text_is =
          lead.bytes_are
          ∙ ap (λ (after : List ℕ). lead.layout ++ (codes ":- entry(" ++ (program.entry ++ (codes ")." ++ after))))
          (stopped.bytes_are ∙ ap (λ (rest : List ℕ). stopped.layout ++ rest) parts.clauses.bytes_are);
      lead_is = lead.layout_is;
      entry_is_name = parts.entry.is_name;
      layout_is = stopped.layout_is;
      apart =
          apart_clauses parts.rest stopped.layout parts.clauses.written parts.clauses.bytes_are parts.clauses.are_written
          stopped.apart;
      clauses_are_written = parts.clauses.are_written;
      clauses_are = parts.clauses.clauses_are;
    }

-- a text is written from one program at most
pub one_reading : (text : List ℕ) (first second : Program) → IsRuleText text first → IsRuleText text second → first ≡ second
one_reading text first second reads_first reads_second =
    let a = reading_parts text first reads_first in
    let b = reading_parts text second reads_second in
    let entries = same_entry text first.entry second.entry a.after b.after a.entry b.entry in
    let both : Some a.rest ≡ Some b.rest = sym a.stop ∙ ap behind_stop entries.1 ∙ b.stop in
    let same_rest : a.rest ≡ b.rest = cc in
    let also : AreClauses a.rest second.clauses = rw same_rest b.clauses in
    let with_entry : Name → Program = λ entry. record { entry = entry; clauses = first.clauses } in
    let with_clauses : List Clause → Program = λ clauses. record { entry = second.entry; clauses = clauses } in
    ap with_entry entries.0 ∙ ap with_clauses (same_clauses a.rest first.clauses second.clauses a.clauses also)
