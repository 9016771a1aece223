-- The numbers that are reached are those that are marked in the end.
use Rattle.std.proofs.Common.{◌≡◌, ◌≢◌, ◌⊎◌, inl, inr, ⊎_elim, ℕ, zero, suc, ◌+◌, ◌*◌, ◌<◌, ◌≤◌, Bool, true, false, cond, List, [], ◌∷◌, ◌++◌, fold, length, replicate, refl, sym, subst, ap, ◌∙◌, arith, length-append, slice_index_or, slice_set}
use Rattle.std.proofs.lemmas.Bool.{cases_eq}
use Rattle.std.proofs.lemmas.List.{get_or-set_same, get_or-set_other, length-set, length-replicate}
use Rattle.aq_term.specs.declared.proc_name.ProcName.{ProcName}
use Rattle.rule_code.specs.CodeAt.{Body}
use Rattle.rule_code.specs.Compiled.{Among}
use Rattle.rule_code.specs.Passes.{Marks, mark, mark_body, row_at, ReachedFrom, begun, further}

-- a number is marked, or past all numbers
abbrev pub IsMarked : List Bool → ℕ → Type 0
IsMarked reached number = slice_index_or reached number true ≡ true

-- how many numbers are not marked
abbrev pub unmarked : List Bool → ℕ
unmarked [] = 0
unmarked (true ∷ reached) = unmarked reached
unmarked (false ∷ reached) = suc (unmarked reached)

unmarked_within : (reached : List Bool) (n : ℕ) → slice_index_or reached n true ≡ false → n < length reached
unmarked_within [] n e = absurd (let no : ⊥ = cc in no)
unmarked_within (x ∷ reached) zero e = omega arith
unmarked_within (x ∷ reached) (suc n) e = let rest = unmarked_within reached n e in omega arith

one_less : (reached : List Bool) (n : ℕ) → slice_index_or reached n true ≡ false → unmarked (slice_set reached n true) + 1 ≡ unmarked reached
one_less [] n e = absurd (let no : ⊥ = cc in no)
one_less (true ∷ reached) zero e = absurd (let no : ⊥ = cc in no)
one_less (false ∷ reached) zero e = omega arith
one_less (true ∷ reached) (suc n) e = one_less reached n e
one_less (false ∷ reached) (suc n) e = let rest = one_less reached n e in omega arith

among_front : {X : Type 0} (xs ys : List X) (x : X) → Among xs x → Among (xs ++ ys) x
among_front [] ys x there = absurd there
among_front (y ∷ xs) ys x (inl e) = inl e
among_front (y ∷ xs) ys x (inr there) = inr (among_front xs ys x there)

among_back : {X : Type 0} (xs ys : List X) (x : X) → Among ys x → Among (xs ++ ys) x
among_back [] ys x there = there
among_back (y ∷ xs) ys x there = inr (among_back xs ys x there)

among_either : {X : Type 0} (xs ys : List X) (x : X) → Among (xs ++ ys) x → Among xs x ⊎ Among ys x
among_either [] ys x there = inr there
among_either (y ∷ xs) ys x (inl e) = inl (inl e)
among_either (y ∷ xs) ys x (inr there) =
    ⊎_elim (λ here. inl (inr here)) (λ later. inr later) (among_either xs ys x there)

-- marks after some numbers were called
record Marked (s t : Marks) (Called : ℕ → Type 0) : Type 0 where
  pub keeps : (a : ℕ) → IsMarked s.reached a → IsMarked t.reached a
  pub all : (a : ℕ) → Called a → IsMarked t.reached a
  pub new : (a : ℕ) → IsMarked t.reached a → IsMarked s.reached a ⊎ (Called a × Among t.todo a)
  pub todo_stays : (a : ℕ) → Among s.todo a → Among t.todo a
  pub todo_from : (a : ℕ) → Among t.todo a → Among s.todo a ⊎ Called a
  pub same_length : length t.reached ≡ length s.reached
  pub less : 2 * unmarked t.reached + length t.todo ≤ 2 * unmarked s.reached + length s.todo

mark_at : (s : Marks) (n : ℕ) (b : Bool) → slice_index_or s.reached n true ≡ b → Marked s (cond b s (record { reached = slice_set s.reached n true; todo = s.todo ++ n ∷ [] })) (λ a. a ≡ n)
mark_at s n true e =
    record {
      keeps = λ a marked. marked;
      all = λ a is. subst (IsMarked s.reached) (sym is) e;
      new = λ a marked. inl marked;
      todo_stays = λ a there. there;
      todo_from = λ a there. inl there;
      same_length = refl;
      less = omega arith;
    }
mark_at s n false e =
    let within = unmarked_within s.reached n e in
    let fewer = one_less s.reached n e in
    let long = length-append s.todo (n ∷ []) in
    let here : slice_index_or (slice_set s.reached n true) n true ≡ true = get_or-set_same s.reached n true true within in
    let other : (a : ℕ) → a ≢ n → slice_index_or (slice_set s.reached n true) a true ≡ slice_index_or s.reached a true = λ a apart. get_or-set_other s.reached n a true true apart in
    record {
      keeps = λ a marked.
          ⊎_elim (λ is. subst (IsMarked (slice_set s.reached n true)) (sym is) here) (λ apart. other a apart ∙ marked) (cases_eq a n);
      all = λ a is. subst (IsMarked (slice_set s.reached n true)) (sym is) here;
      new = λ a marked.
          ⊎_elim (λ is. inr (is, among_back s.todo (n ∷ []) a (inl (sym is)))) (λ apart. inl (sym (other a apart) ∙ marked)) (cases_eq a n);
      todo_stays = λ a there. among_front s.todo (n ∷ []) a there;
      todo_from = λ a there.
          ⊎_elim (λ old. inl old) (λ added. inr (⊎_elim (λ is. sym is) (λ none. absurd none) added)) (among_either s.todo (n ∷ []) a there);
      same_length = length-set s.reached n true;
      less = omega arith;
    }

mark_one : (s : Marks) (name : ProcName) → Marked s (mark s name) (λ a. a ≡ name.name.number)
mark_one s name =
    mark_at s name.name.number (slice_index_or s.reached name.name.number true) refl

then_marked : (s t u : Marks) (P Q R : ℕ → Type 0) → Marked s t P → Marked t u Q → ((a : ℕ) → R a → P a ⊎ Q a) → ((a : ℕ) → P a → R a) → ((a : ℕ) → Q a → R a) → Marked s u R
then_marked s t u P Q R first second either front back =
    let short : 2 * unmarked t.reached + length t.todo ≤ 2 * unmarked s.reached + length s.todo = first.less in
    let shorter : 2 * unmarked u.reached + length u.todo ≤ 2 * unmarked t.reached + length t.todo = second.less in
    record {
      keeps = λ a marked. second.keeps a (first.keeps a marked);
      all = λ a called. ⊎_elim (λ p. second.keeps a (first.all a p)) (λ q. second.all a q) (either a called);
      new = λ a marked.
          ⊎_elim (λ old. ⊎_elim (λ older. inl older) (λ p. inr (front a p.0, second.todo_stays a p.1)) (first.new a old)) (λ q. inr (back a q.0, q.1)) (second.new a marked);
      todo_stays = λ a there. second.todo_stays a (first.todo_stays a there);
      todo_from = λ a there.
          ⊎_elim (λ old. ⊎_elim (λ older. inl older) (λ p. inr (front a p)) (first.todo_from a old)) (λ q. inr (back a q)) (second.todo_from a there);
      same_length = second.same_length ∙ first.same_length;
      less = omega arith;
    }

none_marked : (s : Marks) (Called : ℕ → Type 0) → ((a : ℕ) → Called a → ⊥) → Marked s s Called
none_marked s Called none =
    record {
      keeps = λ a marked. marked;
      all = λ a called. absurd (none a called);
      new = λ a marked. inl marked;
      todo_stays = λ a there. there;
      todo_from = λ a there. inl there;
      same_length = refl;
      less = omega arith;
    }

-- a goal of a body has the number
abbrev CalledBy : Body → ℕ → Type 0
CalledBy body a = (goal : ProcName) × Among body goal × (goal.name.number ≡ a)

abbrev CalledIn : List Body → ℕ → Type 0
CalledIn row a = (body : Body) × Among row body × CalledBy body a

mark_goals : (s : Marks) (body : Body) → Marked s (mark_body s body) (CalledBy body)
mark_goals s [] = none_marked s (CalledBy []) (λ a called. called.1)
mark_goals s (goal ∷ body) =
    then_marked s (mark s goal) (mark_body (mark s goal) body) (λ a. a ≡ goal.name.number) (CalledBy body) (CalledBy (goal ∷ body)) (mark_one s goal) (mark_goals (mark s goal) body) (λ a called. ⊎_elim (λ is. inl (sym called.2 ∙ ap (λ (p : ProcName). p.name.number) (sym is))) (λ later. inr (called.0, later, called.2)) called.1) (λ a is. (goal, inl refl, sym is)) (λ a called. (called.0, inr called.1, called.2))

mark_bodies : (s : Marks) (row : List Body) → Marked s (fold mark_body s row) (CalledIn row)
mark_bodies s [] = none_marked s (CalledIn []) (λ a called. called.1)
mark_bodies s (body ∷ row) =
    then_marked s (mark_body s body) (fold mark_body (mark_body s body) row) (CalledBy body) (CalledIn row) (CalledIn (body ∷ row)) (mark_goals s body) (mark_bodies (mark_body s body) row) (λ a called. ⊎_elim (λ is. inl (subst (λ (b : Body). CalledBy b a) (sym is) called.2)) (λ later. inr (called.0, later, called.2)) called.1) (λ a called. (body, inl refl, called)) (λ a called. (called.0, inr called.1, called.2))

-- all that is marked is reached, and what a marked number calls is marked, unless that is still to be done
pub record Reaching (rows : List (List Body)) (start : ℕ) (reached : List Bool) (todo : List ℕ) : Type 0 where
  pub long : length reached ≡ length rows
  pub start_marked : IsMarked reached start
  pub sound : (a : ℕ) → a < length reached → IsMarked reached a → ReachedFrom rows start a
  pub due : (a : ℕ) → Among todo a → ReachedFrom rows start a
  pub done : (a : ℕ) → IsMarked reached a → Among todo a ⊎ ((n : ℕ) → CalledIn (row_at rows a) n → IsMarked reached n)

row_past : (rows : List (List Body)) (a : ℕ) → length rows ≤ a → row_at rows a ≡ []
row_past [] a past = refl
row_past (row ∷ rows) zero past = absurd (omega arith)
row_past (row ∷ rows) (suc a) past = row_past rows a (omega arith)

unmarked_false : (n a : ℕ) → IsMarked (replicate n false) a → n ≤ a
unmarked_false zero a marked = omega arith
unmarked_false (suc n) zero marked = absurd (let no : ⊥ = cc in no)
unmarked_false (suc n) (suc a) marked = let rest = unmarked_false n a marked in omega arith

pub reaching_begins : (rows : List (List Body)) (entry : ProcName) (n : ℕ) (t : Marks) → n ≡ length rows → t ≡ mark (record { reached = replicate n false; todo = [] }) entry → Reaching rows entry.name.number t.reached t.todo
reaching_begins rows entry n t count is =
    let s : Marks = record { reached = replicate n false; todo = [] } in
    let marks : Marked s t (λ a. a ≡ entry.name.number) = subst (λ (u : Marks). Marked s u (λ a. a ≡ entry.name.number)) (sym is) (mark_one s entry) in
    let long : length (replicate n false) ≡ n = length-replicate n false in
    record {
      long = marks.same_length ∙ long ∙ count;
      start_marked = marks.all entry.name.number refl;
      sound = λ a within marked.
          ⊎_elim (λ old. let past = unmarked_false n a old in let same = marks.same_length in absurd (omega arith)) (λ new. subst (ReachedFrom rows entry.name.number) (sym new.0) begun) (marks.new a marked);
      due = λ a there.
          ⊎_elim (λ none. absurd none) (λ is_entry. subst (ReachedFrom rows entry.name.number) (sym is_entry) begun) (marks.todo_from a there);
      done = λ a marked.
          ⊎_elim (λ old. inr (λ m called. let past = unmarked_false n a old in let none : row_at rows a ≡ [] = row_past rows a (omega arith) in absurd (subst (λ (row : List Body). CalledIn row m) none called).1)) (λ new. inl new.1) (marks.new a marked);
    }

pub reaching_more : (rows : List (List Body)) (start : ℕ) (reached : List Bool) (front : List ℕ) (n : ℕ) (t : Marks) → Reaching rows start reached (front ++ n ∷ []) → t ≡ fold mark_body (record { reached = reached; todo = front }) (row_at rows n) → Reaching rows start t.reached t.todo
reaching_more rows start reached front n t old is =
    let s : Marks = record { reached = reached; todo = front } in
    let marks : Marked s t (CalledIn (row_at rows n)) = subst (λ (u : Marks). Marked s u (CalledIn (row_at rows n))) (sym is) (mark_bodies s (row_at rows n)) in
    let from : ReachedFrom rows start n = old.due n (among_back front (n ∷ []) n (inl refl)) in
    let next : (a : ℕ) → CalledIn (row_at rows n) a → ReachedFrom rows start a = λ a called.
    subst (ReachedFrom rows start) called.2.2 (further n called.0 called.2.0 from called.1 called.2.1) in
    record {
      long = marks.same_length ∙ old.long;
      start_marked = marks.keeps start old.start_marked;
      sound = λ a within marked.
          ⊎_elim (λ before. old.sound a (let same : length t.reached ≡ length reached = marks.same_length in omega arith) before) (λ new. next a new.0) (marks.new a marked);
      due = λ a there. ⊎_elim (λ before. old.due a (among_front front (n ∷ []) a before)) (λ called. next a called) (marks.todo_from a there);
      done = λ a marked.
          ⊎_elim (λ before. ⊎_elim (λ waits. ⊎_elim (λ still. inl (marks.todo_stays a still)) (λ last. inr (λ m called. marks.all m (⊎_elim (λ same. subst (λ (k : ℕ). CalledIn (row_at rows k) m) (sym same) called) (λ none. absurd none) last))) (among_either front (n ∷ []) a waits)) (λ all. inr (λ m called. marks.keeps m (all m called))) (old.done a before)) (λ new. inl new.1) (marks.new a marked);
    }

pub reaching_less : (rows : List (List Body)) (reached : List Bool) (front : List ℕ) (n : ℕ) (t : Marks) → t ≡ fold mark_body (record { reached = reached; todo = front }) (row_at rows n) → 2 * unmarked t.reached + length t.todo < 2 * unmarked reached + length (front ++ n ∷ [])
reaching_less rows reached front n t is =
    let s : Marks = record { reached = reached; todo = front } in
    let marks : Marked s t (CalledIn (row_at rows n)) = subst (λ (u : Marks). Marked s u (CalledIn (row_at rows n))) (sym is) (mark_bodies s (row_at rows n)) in
    let less : 2 * unmarked t.reached + length t.todo ≤ 2 * unmarked reached + length front = marks.less in
    let long = length-append front (n ∷ []) in
    omega arith

-- a number within the table that is marked
true_within : (reached : List Bool) (a : ℕ) → slice_index_or reached a false ≡ true → (a < length reached) × IsMarked reached a
true_within [] a e = absurd (let no : ⊥ = cc in no)
true_within (x ∷ reached) zero e = (omega arith, e)
true_within (x ∷ reached) (suc a) e =
    let rest = true_within reached a e in
    let less = rest.0 in
    (omega arith, rest.1)

within_true : (reached : List Bool) (a : ℕ) → a < length reached → IsMarked reached a → slice_index_or reached a false ≡ true
within_true [] a less e = absurd (omega arith)
within_true (x ∷ reached) zero less e = e
within_true (x ∷ reached) (suc a) less e = within_true reached a (omega arith) e

pub reaching_sound : (rows : List (List Body)) (start : ℕ) (reached : List Bool) (todo : List ℕ) → Reaching rows start reached todo → (number : ℕ) → slice_index_or reached number false ≡ true → ReachedFrom rows start number
reaching_sound rows start reached todo all number e =
    let there = true_within reached number e in
    all.sound number there.0 there.1

reaching_all : (rows : List (List Body)) (start : ℕ) (reached : List Bool) → Reaching rows start reached [] → (number : ℕ) → ReachedFrom rows start number → IsMarked reached number
reaching_all rows start reached all number begun = all.start_marked
reaching_all rows start reached all number (further caller body goal from in_row in_body) =
    ⊎_elim (λ none. absurd none) (λ calls. calls goal.name.number (body, in_row, (goal, in_body, refl))) (all.done caller (reaching_all rows start reached all caller from))

pub reaching_complete : (rows : List (List Body)) (start : ℕ) (reached : List Bool) → Reaching rows start reached [] → (number : ℕ) → ReachedFrom rows start number → number < length rows → slice_index_or reached number false ≡ true
reaching_complete rows start reached all number from less =
    within_true reached number (let long : length reached ≡ length rows = all.long in omega arith) (reaching_all rows start reached all number from)
