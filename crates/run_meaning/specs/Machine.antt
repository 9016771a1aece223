-- A machine is a function from a state to what one step gives. So each state has one next state. The source, the kernel
-- and the code each have their own states, events and endings.
use Rattle.std.specs.Prelude.{◌≡◌, ℕ, zero, suc, ◌+◌, List, [], ◌++◌}

-- what one step gives: events, work, and the next state or an ending
pub data Step (E X S : Type 0) : Type 0 where
  went : (events : List E) → (work : ℕ) → (next : S) → Step E X S
  ended : (events : List E) → (work : ℕ) → (ending : X) → Step E X S

-- where a run stands: on its way in a state, or over
pub data Stand (X S : Type 0) : Type 0 where
  going : S → Stand X S
  over : X → Stand X S

-- the first steps of a run: their events in order, their work, and where they lead
pub record Run (E X S : Type 0) : Type 0 where
  pub events : List E
  pub work : ℕ
  pub stand : Stand X S

-- no step yet
abbrev pub at_start : {E X S : Type 0} → S → Run E X S
at_start s = record { events = []; work = 0; stand = going s }

-- one step, and then what its next state leads to
abbrev pub onward : {E X S : Type 0} → (S → Run E X S) → Step E X S → Run E X S
onward rest (went events work next) =
    record { events = events ++ (rest next).events; work = work + (rest next).work; stand = (rest next).stand }
onward rest (ended events work ending) = record { events = events; work = work; stand = over ending }

-- the first n steps from a state; a run that is over takes no further step
abbrev pub after : {E X S : Type 0} → (S → Step E X S) → ℕ → S → Run E X S
after step zero s = at_start s
after step (suc n) s = onward (after step n) (step s)

-- the run from a state is over after some number of steps, with these events and this ending
pub record Finishes {E X S : Type 0} (step : S → Step E X S) (s : S) (events : List E) (ending : X) : Type 0 where
  pub steps : ℕ
  pub work : ℕ
  pub is_over : after step steps s ≡ record { events = events; work = work; stand = over ending }

-- the one list is the other, or goes on from it
abbrev pub IsPrefix : {A : Type 0} → List A → List A → Type 0
IsPrefix {A} front whole = (rest : List A) × (whole ≡ front ++ rest)
