-- Registers below r64 stay, and the others stay from r64 on.
use Rattle.std.proofs.Common.{◌≡◌, ℕ, ◌<◌, ◌≤◌, ◌+◌, Option, Some, None, cond, min, nat_eq, nat_lt, refl, arith}
use Rattle.std.specs.HashMap.{get}
use Rattle.reg_alloc.specs.declared.renaming.Renaming.{Renaming}
use Rattle.reg_alloc.specs.NewNumber.{new_number, number_above}

pub new_number-low : (renaming : Renaming) (r : ℕ) → r < 64 → new_number renaming r ≡ r
new_number-low renaming r below = grind arith

number_above-high : (r : ℕ) (above : Option ℕ) → 64 ≤ r → 64 ≤ number_above r above
number_above-high r (Some above) high = grind arith
number_above-high r None high = high

pub new_number-high : (renaming : Renaming) (r : ℕ) → 64 ≤ r → 64 ≤ new_number renaming r
new_number-high renaming r high =
    let given = number_above-high r (get nat_eq renaming.given r) high in
    grind (arith, given)
