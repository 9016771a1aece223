-- The operators, by the numbers of their names: 0 `:-`, 1 `-->`, 2 `?-`, 3 `;`, 4 `->`, 5 `,`, 6 `\+`, 7 to 22 the comparisons
-- from `=` to `>=`, 23 to 26 `+ - /\ \/`, 27 to 33 `* / // rem mod << >>`, 34 `**`, 35 `^`, 36 `\`.
use Rattle.std.specs.Prelude.{ℕ, Bool, ◌||◌, nat_le, ◌==◌, ◌&&◌, Option, Some, None, is_some, if◌then◌else◌}

-- an infix operator's priority, and the greatest priority of its left and its right operand
pub record Infix : Type 0 where
  pub priority : ℕ
  pub left : ℕ
  pub right : ℕ

-- a prefix operator's priority, and the greatest priority of its operand
pub record Prefix : Type 0 where
  pub priority : ℕ
  pub operand : ℕ

abbrev xfx : ℕ → ℕ → Option Infix
xfx p q = Some (record { priority = p; left = q; right = q })

abbrev xfy : ℕ → ℕ → Option Infix
xfy p q = Some (record { priority = p; left = q; right = p })

abbrev yfx : ℕ → ℕ → Option Infix
yfx p q = Some (record { priority = p; left = p; right = q })

-- the number is from the first to the last
abbrev is_between : ℕ → ℕ → ℕ → Bool
is_between first last n = nat_le first n && nat_le n last

abbrev pub infix_of : ℕ → Option Infix
infix_of n =
    if is_between 0 1 n then xfx 1200 1199
    else if n == 3 then xfy 1100 1099
    else if n == 4 then xfy 1050 1049
    else if n == 5 then xfy 1000 999
    else if is_between 7 22 n then xfx 700 699
    else if is_between 23 26 n then yfx 500 499
    else if is_between 27 33 n then yfx 400 399
    else if n == 34 then xfx 200 199
    else if n == 35 then xfy 200 199
    else None

abbrev pub prefix_of : ℕ → Option Prefix
prefix_of n =
    if n == 0 || n == 2 then Some (record { priority = 1200; operand = 1199 })
    else if n == 6 then Some (record { priority = 900; operand = 900 })
    else if n == 24 || n == 36 then Some (record { priority = 200; operand = 200 })
    else None

abbrev pub is_operator : ℕ → Bool
is_operator n = is_some (infix_of n) || is_some (prefix_of n)
