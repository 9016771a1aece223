-- The new number of a register.
use Rattle.std.specs.Prelude.{ℕ, ◌+◌, cond, min, nat_eq, nat_lt, Option, Some, None}
use Rattle.std.specs.HashMap.{get}
use Rattle.reg_alloc.specs.declared.renaming.Renaming.{Renaming}

-- at most the greatest number that a register can have
abbrev pub number_above : ℕ → Option ℕ → ℕ
number_above register (Some above) = min (64 + above) 65535
number_above register None = register

abbrev pub new_number : Renaming → ℕ → ℕ
new_number renaming register = cond (nat_lt register 64) register (number_above register (get nat_eq renaming.given register))
