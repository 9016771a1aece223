-- What the code has read of the clauses of a text.
use Rattle.std.proofs.Common.{◌≡◌, ◌≢◌, ℕ, Bool, false, List, [], ◌∷◌, ◌++◌, None, Some, length, ◌<◌, ◌≤◌, refl, sym, ◌∙◌, ap, subst, append_assoc, append-nil, arith, length-append}
use Rattle.std.specs.Prelude.{◌&&◌, IsTrue, codes}
use Rattle.std.specs.List.{list_all}
use Rattle.std.proofs.lemmas.Bool.{and_parts}
use Rattle.source_meaning.specs.Program.{Name, Clause}
use Rattle.source_meaning.specs.RuleText.{is_name, body_text}
use Rattle.source_meaning.specs.RuleFront.{behind_stop, word_of, behind_word, IsNameFront, IsBody, IsClause, AreClauses}
use Rattle.source_meaning.proofs.RuleFronts.{word_of-name, behind_word-name, begins_body, same_clause, first_clause}
use Rattle.source_meaning.proofs.RuleLayout.{stop_of}
use Rattle.source_meaning.proofs.RuleReading.{more_clauses, some_same}
use Rattle.rule_text.proofs.BodyReads.{front_is}

module _ (text : List ℕ) (clause : Clause) (after : List ℕ) (reads : IsClause text clause after) where
  head_named : IsTrue (is_name clause.head)
  head_named = (and_parts (is_name clause.head) (list_all is_name clause.body) reads.names).0

  head_word : word_of text ≡ clause.head
  head_word =
      ap word_of reads.bytes_are
      ∙ word_of-name clause.head (body_text clause.body ++ (codes "." ++ after)) head_named (begins_body clause.body after)

  pub no_head : is_name (word_of text) ≡ false → ⊥
  no_head unnamed =
      let same : is_name (word_of text) ≡ is_name clause.head = ap is_name head_word in
      let named = head_named in
      cc

  -- the body stands behind the name in front
  pub body_behind : (name tail : List ℕ) → IsNameFront text name tail → IsBody tail clause.body after
  body_behind name tail front =
      record {
        bytes_are =
            front.after_is
            ∙ ap behind_word reads.bytes_are
            ∙ behind_word-name clause.head (body_text clause.body ++ (codes "." ++ after)) head_named (begins_body clause.body after);
        names = (and_parts (is_name clause.head) (list_all is_name clause.body) reads.names).1;
      }

-- a name and a body are a clause
pub clause_reads : (text name tail : List ℕ) (goals : List Name) (after : List ℕ) → IsNameFront text name tail → IsBody tail goals after
    → IsClause text (record { head = name; body = goals }) after
clause_reads text name tail goals after front body =
    record {
      bytes_are = front_is text name tail front ∙ ap (λ (rest : List ℕ). name ++ rest) body.bytes_are;
      names = ap (λ (is_one : Bool). is_one && list_all is_name goals) front.named ∙ body.names;
    }

-- what stands behind a clause is shorter
pub after_shorter : (bytes : List ℕ) (clause : Clause) (after : List ℕ) → IsClause bytes clause after → length after < length bytes
after_shorter bytes clause after reads =
    omega (arith, simp (length-append {A = ℕ}) at (ap length reads.bytes_are))

-- what stands behind layout is no longer
pub stop_shorter : (after rest : List ℕ) → behind_stop after ≡ Some rest → length rest ≤ length after
stop_shorter after rest stop =
    let stopped = stop_of after rest stop in
    omega (arith, simp (length-append {A = ℕ}) at (ap length stopped.bytes_are))

pub nothing_left : (rest : List ℕ) → length rest ≡ 0 → rest ≡ []
nothing_left [] none = refl
nothing_left (byte ∷ rest) none = absurd (let bad : ⊥ = cc in bad)

-- the clauses read so far, and how the others go on
pub record ClausesLeft (clauses : List Clause) (rest : List ℕ) (all : List Clause) : Type 0 where
  pub more : List Clause
  pub all_are : all ≡ clauses ++ more
  pub left : AreClauses rest more

-- the clauses of these bytes are those read so far and what stands in the rest
pub record ClausesSoFar (bytes : List ℕ) (clauses : List Clause) (rest : List ℕ) : Type 0 where
  pub forth : (more : List Clause) → AreClauses rest more → AreClauses bytes (clauses ++ more)
  pub back : (all : List Clause) → AreClauses bytes all → ClausesLeft clauses rest all

pub nothing_read : (bytes : List ℕ) → ClausesSoFar bytes [] bytes
nothing_read bytes = record { forth = λ more left. left; back = λ all are. record { more = all; all_are = refl; left = are } }

module _ (bytes rest : List ℕ) (clauses : List Clause) (so_far : ClausesSoFar bytes clauses rest) where
  -- one clause more is read
  pub next_clause : (clause : Clause) (after behind : List ℕ) → rest ≢ [] → IsClause rest clause after → behind_stop after ≡ Some behind
      → ClausesSoFar bytes (clauses ++ clause ∷ []) behind
  next_clause clause after behind some reads stop =
      record {
        forth = λ more left.
            subst (λ (all : List Clause). AreClauses bytes all) (sym (append_assoc clauses (clause ∷ []) more))
            (so_far.forth (clause ∷ more) (more_clauses rest clause after behind more reads stop left));
        back = λ all are.
            let known = so_far.back all are in
            let first = first_clause rest known.more known.left some in
            let same = same_clause rest first.clause clause first.after after first.first reads in
            let rests : first.rest ≡ behind = some_same first.rest behind (sym first.stop ∙ ap behind_stop same.1 ∙ stop) in
            record {
              more = first.later;
              all_are =
                  known.all_are
                  ∙ ap (λ (more : List Clause). clauses ++ more) (first.clauses_are ∙ ap (λ (one : Clause). one ∷ first.later) same.0)
                  ∙ sym (append_assoc clauses (clause ∷ []) first.later);
              left = subst (λ (rest : List ℕ). AreClauses rest first.later) rests first.others;
            };
      }

  pub no_clause : rest ≢ [] → ((clause : Clause) (after : List ℕ) → IsClause rest clause after → ⊥) → (all : List Clause) → AreClauses bytes all → ⊥
  no_clause some none all are =
      let known = so_far.back all are in
      let first = first_clause rest known.more known.left some in
      none first.clause first.after first.first

  pub no_layout : (clause : Clause) (after : List ℕ) → rest ≢ [] → IsClause rest clause after → behind_stop after ≡ None
      → (all : List Clause) → AreClauses bytes all → ⊥
  no_layout clause after some reads none all are =
      let known = so_far.back all are in
      let first = first_clause rest known.more known.left some in
      let same = same_clause rest first.clause clause first.after after first.first reads in
      let found : Some first.rest ≡ None = sym first.stop ∙ ap behind_stop same.1 ∙ none in
      let bad : ⊥ = cc in
      bad

  -- nothing is left
  pub all_read : rest ≡ [] → AreClauses bytes clauses
  all_read none =
      subst (λ (all : List Clause). AreClauses bytes all) (append-nil clauses)
      (so_far.forth [] (record { written = []; bytes_are = none; are_written = tt; clauses_are = refl }))
