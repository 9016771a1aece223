-- Where the code gives up, a text has no reading, and where it does not, it has the one that the code found.
use Rattle.std.proofs.Common.{◌≡◌, ◌≢◌, ℕ, false, List, ◌++◌, None, Some, sym, ◌∙◌, ap, subst}
use Rattle.std.specs.Prelude.{codes}
use Rattle.source_meaning.specs.Program.{Name, Clause, Program}
use Rattle.source_meaning.specs.RuleText.{is_name, IsRuleText}
use Rattle.source_meaning.specs.RuleFront.{behind_gap, behind_stop, word_of, behind_word, IsNameFront, AreClauses, IsEntry}
use Rattle.source_meaning.proofs.RuleFronts.{word_of-name, behind_word-name}
use Rattle.source_meaning.proofs.RuleReading.{Parts, same_front, begins_stop, same_entry, reading_parts, parts_reading}
use Rattle.rule_text.proofs.BodyReads.{front_is}

module _ (text opened : List ℕ) (front : behind_gap false text ≡ Some (codes ":- entry(" ++ opened)) where
  opened_is : (entry : Name) (after : List ℕ) → IsEntry text entry after → opened ≡ entry ++ (codes ")." ++ after)
  opened_is entry after reads = same_front opened (entry ++ (codes ")." ++ after)) (sym front ∙ reads.front)

  entry_word : (entry : Name) (after : List ℕ) → IsEntry text entry after → word_of opened ≡ entry
  entry_word entry after reads =
      ap word_of (opened_is entry after reads) ∙ word_of-name entry (codes ")." ++ after) reads.is_name (begins_stop after)

  pub no_entry_name : is_name (word_of opened) ≡ false → (entry : Name) (after : List ℕ) → IsEntry text entry after → ⊥
  no_entry_name unnamed entry after reads =
      let same : is_name (word_of opened) ≡ is_name entry = ap is_name (entry_word entry after reads) in
      let named = reads.is_name in
      cc

  module _ (name tail : List ℕ) (reads_name : IsNameFront opened name tail) where
    pub no_entry_stop : ((rest : List ℕ) → tail ≢ codes ")." ++ rest) → (entry : Name) (after : List ℕ) → IsEntry text entry after → ⊥
    no_entry_stop none entry after reads =
        none after
        (
        reads_name.after_is
        ∙ ap behind_word (opened_is entry after reads)
        ∙ behind_word-name entry (codes ")." ++ after) reads.is_name (begins_stop after)
        )

    pub entry_reads : (after : List ℕ) → tail ≡ codes ")." ++ after → IsEntry text name after
    entry_reads after stop =
        record {
          front =
              front
              ∙ ap (λ (rest : List ℕ). Some (codes ":- entry(" ++ rest))
              (front_is opened name tail reads_name ∙ ap (λ (rest : List ℕ). name ++ rest) stop);
          is_name = reads_name.named;
        }

-- no entry behind the layout
pub no_opening : (text : List ℕ) → ((rest : List ℕ) → behind_gap false text ≢ Some (codes ":- entry(" ++ rest))
    → (entry : Name) (after : List ℕ) → IsEntry text entry after → ⊥
no_opening text none entry after reads = none (entry ++ (codes ")." ++ after)) reads.front

pub no_entry : (text : List ℕ) → ((entry : Name) (after : List ℕ) → IsEntry text entry after → ⊥) → (program : Program) → IsRuleText text program → ⊥
no_entry text none program reading =
    let parts = reading_parts text program reading in none program.entry parts.after parts.entry

module _ (text entry after : List ℕ) (reads_entry : IsEntry text entry after) where
  after_same : (program : Program) (parts : Parts text program) → behind_stop after ≡ Some parts.rest
  after_same program parts =
      let same = same_entry text entry program.entry after parts.after reads_entry parts.entry in
      ap behind_stop same.1 ∙ parts.stop

  pub no_layout_behind : behind_stop after ≡ None → (program : Program) → IsRuleText text program → ⊥
  no_layout_behind none program reading =
      let parts = reading_parts text program reading in
      let found = after_same program parts in
      cc

  module _ (rest : List ℕ) (stop : behind_stop after ≡ Some rest) where
    pub no_clauses_behind : ((clauses : List Clause) → AreClauses rest clauses → ⊥) → (program : Program) → IsRuleText text program → ⊥
    no_clauses_behind none program reading =
        let parts = reading_parts text program reading in
        let found = after_same program parts in
        let same : parts.rest ≡ rest = cc in
        none program.clauses (subst (λ (rest : List ℕ). AreClauses rest program.clauses) same parts.clauses)

    pub text_reads : (clauses : List Clause) → AreClauses rest clauses → IsRuleText text (record { entry = entry; clauses = clauses })
    text_reads clauses are =
        parts_reading text (record { entry = entry; clauses = clauses })
        (record { after = after; rest = rest; entry = reads_entry; stop = stop; clauses = are })
