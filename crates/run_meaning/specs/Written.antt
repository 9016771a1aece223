-- The bytes that events and an ending stand for.
use Rattle.std.specs.Prelude.{ℕ, Bool, true, ◌==◌, List, [], ◌∷◌, ◌++◌, codes, if◌then◌else◌}
use Rattle.run_meaning.specs.Event.{Event, solution, output}

abbrev pub NEW_LINE : ℕ
NEW_LINE = 10

-- no byte was written, or the last one is a new line
abbrev pub at_line_start : List ℕ → Bool
at_line_start [] = true
at_line_start (byte ∷ []) = byte == NEW_LINE
at_line_start (byte ∷ next ∷ bytes) = at_line_start (next ∷ bytes)

-- the bytes, and a new line where they end within a line
abbrev pub on_fresh_line : List ℕ → List ℕ
on_fresh_line bytes = if at_line_start bytes then bytes else bytes ++ NEW_LINE ∷ []

-- what is there after one more event; an answer begins on a line of its own
abbrev pub written : {V : Type 0} → (V → List ℕ) → List ℕ → Event V → List ℕ
written answer before (solution values) = on_fresh_line before ++ answer values
written answer before (output bytes) = before ++ bytes

-- what is there after these events, answers being written by the function given
abbrev pub body_from : {V : Type 0} → (V → List ℕ) → List ℕ → List (Event V) → List ℕ
body_from answer before [] = before
body_from answer before (event ∷ events) = body_from answer (written answer before event) events

-- the bytes of a run's events
abbrev pub body : {V : Type 0} → (V → List ℕ) → List (Event V) → List ℕ
body answer events = body_from answer [] events

-- an answer without variables: the line `true`, then the line `;`
abbrev pub true_lines : List ℕ
true_lines = codes "true" ++ NEW_LINE ∷ codes ";" ++ NEW_LINE ∷ []

-- the bytes of a run that has ended: its body, and the ending on a line of its own
abbrev pub closed : List ℕ → List ℕ → List ℕ
closed bytes ending_line = on_fresh_line bytes ++ ending_line ++ NEW_LINE ∷ []
