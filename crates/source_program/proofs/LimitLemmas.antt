-- Facts about limits and totals.
use Rattle.std.proofs.Common.{ℕ, ◌≡◌, ◌+◌, ◌<◌, ◌≤◌, min, Bool, nat_lt, cond, Option, Some, None, ap, refl, arith, lt-ltb, le-ltb}
use Rattle.std.proofs.lemmas.Bool.Decides.{nat_tests}
use Rattle.aq_base.specs.declared.refusal.LimitKind.{LimitKind}
use Rattle.aq_base.specs.declared.refusal.LimitKind.TheVariants as limit
use Rattle.source_program.specs.Limits.{Counts, kernel_limit, limit_of}
use Rattle.source_program.specs.declared.outline_counts.OutlineCounts.{OutlineCounts}

-- a clause with more than 63 arguments passes the limit of arguments
pub many_arguments : (c : Counts) (before : ℕ) → 63 < c.arguments → Some limit.Arity ≡ limit_of c before
many_arguments c before h = rw (lt-ltb 63 c.arguments h) refl

abbrev tested : OutlineCounts → Bool → Option LimitKind
tested c over =
    cond (nat_lt 62 c.branch) (Some limit.Branch)
    (cond (nat_lt 400 c.variables) (Some limit.Variables)
    (cond (nat_lt 256 c.slots) (Some limit.Slots)
    (cond (nat_lt 512 c.nodes) (Some limit.Nodes)
    (cond over (Some limit.Total) None))))

same_test : (a b : ℕ) → a ≡ min b 18446744073709551615 → nat_lt 16777216 a ≡ nat_lt 16777216 b
same_test a b e = grind (arith, nat_tests)

-- a total that a number of 64 bits cannot tell is past the limit too
pub capped_limit : (c : Counts) (before total : ℕ) → c.arguments ≤ 63 → total ≡ min (before + c.kernel.total) 18446744073709551615 →
    kernel_limit c.kernel total ≡ limit_of c before
capped_limit c before total few e =
    rw (le-ltb 63 c.arguments few) (ap (tested c.kernel) (same_test total (before + c.kernel.total) e))

-- where no limit is passed, the total is told
pub told_total : (c : OutlineCounts) (sum total : ℕ) → total ≡ min sum 18446744073709551615 → kernel_limit c total ≡ None → total ≡ sum
told_total c sum total e none =
    let low : total ≤ 16777216 = low_total c total none in
    omega (arith, low, e)
  where
    low_total : (c : OutlineCounts) (total : ℕ) → kernel_limit c total ≡ None → total ≤ 16777216
    low_total c total none = grind (arith, nat_tests)
