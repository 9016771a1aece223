use Rattle.std.proofs.Common.{refl}
use Rattle.reg_alloc.specs.NewNumber.{new_number}
use Rattle.reg_alloc.proofs.NewNumberLemmas.{new_number-high, new_number-low}
use Rattle.reg_alloc.proofs.allocate.allocate_proc.Goals as goal

pub returns : goal.returns
returns c = record {
  new = new_number c.in_ok-renaming.renaming;
  signature = refl;
  low = λ r below. new_number-low c.in_ok-renaming.renaming r below;
  high = λ r above. new_number-high c.in_ok-renaming.renaming r above;
  lines = rw (c.from_vec.ensures, ← c.into_vec.ensures) c.in_ok-renamed.ensures;
}
