-- The number that a label is given.
use Rattle.std.specs.Prelude.{ℕ, Option, unwrap_or}
use Rattle.std.specs.HashMap.{get}
use Rattle.std.specs.Prelude.{nat_eq}
use Rattle.bam_peephole.specs.declared.new_numbers.NewNumbers.{NewNumbers}

abbrev pub new_number : NewNumbers → ℕ → ℕ
new_number names number = unwrap_or (get nat_eq names.numbers number) 4294967295
