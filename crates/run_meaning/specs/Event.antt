-- What a run lets the world see.
use Rattle.std.specs.Prelude.{ℕ, List}

-- a solution, with the values of the query's named variables, or bytes that the program itself writes
pub data Event (V : Type 0) : Type 0 where
  solution : (values : V) → Event V
  output : (bytes : List ℕ) → Event V
