-- Which labels were named so far.
use Rattle.std.specs.Prelude.{Bool, ℕ, nat_eq}
use Rattle.std.specs.HashSet.{contains}
use Rattle.bam_peephole.specs.declared.reached.Reach.{Reach}

abbrev pub named_in : Reach → ℕ → Bool
named_in reach number = contains nat_eq reach.named number
