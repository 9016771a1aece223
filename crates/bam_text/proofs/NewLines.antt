-- New lines before a place and from it on.
use Rattle.std.proofs.Common.{◌≡◌, ℕ, zero, suc, ◌+◌, ◌==◌, ◌≤◌, if◌then◌else◌, List, [], ◌∷◌, drop, Some, arith}
use Rattle.std.proofs.lemmas.Grind.{common_steps}
use Rattle.std.proofs.lemmas.Bool.Decides.{nat_tests}
use Rattle.std.specs.List.{slice_get}
use Rattle.bam_text.specs.TextLeft.{new_lines}

one_here : (byte n : ℕ) → Some byte ≡ Some 10 → n + 1 ≤ (if byte == 10 then 1 else 0) + n
one_here byte n is = grind (arith, nat_tests)

pub new_lines_after : (bytes : List ℕ) (end : ℕ) → slice_get bytes end ≡ Some 10 → new_lines (drop (end + 1) bytes) + 1 ≤ new_lines bytes
new_lines_after [] end at = grind (arith, common_steps)
new_lines_after (byte ∷ bytes) zero at = one_here byte (new_lines bytes) at
new_lines_after (byte ∷ bytes) (suc end) at =
    let rest = new_lines_after bytes end at in
    let next : suc end + 1 ≡ suc (end + 1) = omega arith in
    rw next (omega (arith, rest))
