-- A program whose goals are names: clauses in text order, and the name that a query may call.
use Rattle.std.specs.Prelude.{ℕ, List, []}

abbrev pub Name : Type 0
Name = List ℕ

-- a head, and the goals of the body from left to right; a fact has none
pub record Clause : Type 0 where
  pub head : Name
  pub body : List Name

pub record Program : Type 0 where
  pub entry : Name
  pub clauses : List Clause

-- the fact of a name
abbrev pub fact : Name → Clause
fact name = record { head = name; body = [] }
