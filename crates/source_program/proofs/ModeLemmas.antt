-- Modes from a place on.
use Rattle.std.proofs.Common.{ℕ, ◌≡◌, ◌+◌, ◌<◌, ◌&&◌, List, length, map, drop, get_or, is_some, refl, add-one}
use Rattle.std.proofs.Math.Seq.{drop-cons}
use Rattle.term_meaning.specs.Plain.{plains}
use Rattle.aq_term.specs.PlainOf.{plain}
use Rattle.aq_term.specs.declared.term.Term.{Term}
use Rattle.source_program.specs.ClauseFaults.{are_modes, mode_of}

pub modes_step : (ts : List Term) (i : ℕ) (d : Term) → i < length ts →
    are_modes (plains (map plain (drop i ts)))
    ≡ (is_some (mode_of (plain (get_or ts i d))) && are_modes (plains (map plain (drop (i + 1) ts))))
modes_step ts i d h = rw (add-one, drop-cons ts i d) refl
