-- The laws of runs, for every machine.
use Rattle.std.proofs.Common.{◌≡◌, ℕ, zero, suc, ◌+◌, List, [], ◌++◌, refl, sym, ◌∙◌, ap, append_assoc, append-nil, add_assoc, zero-add, arith}
use Rattle.run_meaning.specs.Machine.{Step, went, ended, Stand, going, over, Run, onward, after, Finishes, IsPrefix}

-- a run, and where it is still on its way, the run from the state that it has come to
abbrev pub followed_by : {E X S : Type 0} → Run E X S → (S → Run E X S) → Stand X S → Run E X S
followed_by first rest (going s) =
    record { events = first.events ++ (rest s).events; work = first.work + (rest s).work; stand = (rest s).stand }
followed_by first rest (over ending) = first

-- more events and work in front of both sides
abbrev pub with_front : {E X S : Type 0} → List E → ℕ → Run E X S → Run E X S
with_front events work run = record { events = events ++ run.events; work = work + run.work; stand = run.stand }

pub followed_by-with_front : {E X S : Type 0} (events : List E) (work : ℕ) (first : Run E X S) (rest : S → Run E X S) (stand : Stand X S)
    → with_front events work (followed_by first rest stand) ≡ followed_by (with_front events work first) rest stand
followed_by-with_front events work first rest (going s) =
    let same_events = append_assoc events first.events (rest s).events in
    let same_work = add_assoc work first.work (rest s).work in grind arith
followed_by-with_front events work first rest (over ending) = refl

module _ {E X S : Type 0} (step : S → Step E X S) where
  add_steps : (i j : ℕ) (taken : Step E X S) (s : S)
      → ((t : S) → after step (i + j) t ≡ followed_by (after step i t) (after step j) (after step i t).stand)
      → onward (after step (i + j)) taken ≡ followed_by (onward (after step i) taken) (after step j) (onward (after step i) taken).stand
  add_steps i j (went events work next) s more =
      ap (with_front events work) (more next) ∙ followed_by-with_front events work (after step i next) (after step j) (after step i next).stand
  add_steps i j (ended events work ending) s more = refl

  -- the first i + j steps are the first i, and then j from where these lead
  pub after-add : (i j : ℕ) (s : S) → after step (i + j) s ≡ followed_by (after step i s) (after step j) (after step i s).stand
  after-add zero j s =
      let no_step : 0 + j ≡ j = zero-add j in
      let no_work : 0 + (after step j s).work ≡ (after step j s).work = zero-add (after step j s).work in
      rw (no_step, no_work)
  after-add (suc i) j s =
      let one_more : suc i + j ≡ suc (i + j) = omega arith in
      rw one_more (add_steps i j (step s) s (λ t. after-add i j t))

  prefix_followed : (first : Run E X S) (rest : S → Run E X S) (stand : Stand X S) → IsPrefix first.events (followed_by first rest stand).events
  prefix_followed first rest (going s) = ((rest s).events, refl)
  prefix_followed first rest (over ending) = ([], sym (append-nil first.events))

  -- the events of fewer steps are a prefix of those of more
  pub events_grow : (i j : ℕ) (s : S) → IsPrefix (after step i s).events (after step (i + j) s).events
  events_grow i j s =
      rw (after-add i j s) (prefix_followed (after step i s) (after step j) (after step i s).stand)

  -- a run that is over stays over, with the same events and work
  pub over_stays : (i j : ℕ) (s : S) (ending : X) → (after step i s).stand ≡ over ending → after step (i + j) s ≡ after step i s
  over_stays i j s ending is_over =
      after-add i j s ∙ ap (λ (stand : Stand X S). followed_by (after step i s) (after step j) stand) is_over

  -- two ways in which a run from one state is over are one
  pub one_ending : (i j : ℕ) (s : S) (a b : X) → (after step i s).stand ≡ over a → (after step j s).stand ≡ over b → after step i s ≡ after step j s
  one_ending i j s a b over_a over_b =
      sym (over_stays i j s a over_a) ∙ ap (λ (n : ℕ). after step n s) (let e : i + j ≡ j + i = omega arith in e) ∙ over_stays j i s b over_b

  -- a run from one state finishes in one way
  pub finishes_once : (s : S) (some other : List E) (a b : X) → Finishes step s some a → Finishes step s other b → (some ≡ other) × (a ≡ b)
  finishes_once s some other a b first second =
      let stand_of : Run E X S → Stand X S = λ run. run.stand in
      let events_of : Run E X S → List E = λ run. run.events in
      let over_first = ap stand_of first.is_over in
      let over_second = ap stand_of second.is_over in
      let one = one_ending first.steps second.steps s a b over_first over_second in
      let both = sym first.is_over ∙ one ∙ second.is_over in
      let ended_by : X → Stand X S = λ ending. over ending in
      let stands : ended_by a ≡ ended_by b = ap stand_of both in
      (ap events_of both, let same : a ≡ b = cc in same)
