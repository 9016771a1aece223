-- Cleaned procedures, those of which moves are coalesced, and those with other registers have the signatures of before.
use Rattle.std.proofs.Common.{◌≡◌, List, [], ◌∷◌, map, refl}
use Rattle.std.specs.List.{AllZip}
use Rattle.bam_code.specs.declared.procedure.Proc.{Proc}
use Rattle.bam_peephole.specs.Cleaned.{IsCleaned}
use Rattle.goal_code.specs.Signatures.{signature_of}
use Rattle.move_coalescing.specs.Coalesced.{IsCoalesced}
use Rattle.reg_alloc.specs.Allocated.{IsAllocated}

pub cleaned_signatures : (before after : List Proc) → AllZip IsCleaned before after → map signature_of after ≡ map signature_of before
cleaned_signatures [] [] all = refl
cleaned_signatures [] (y ∷ ys) all = absurd all
cleaned_signatures (x ∷ xs) [] all = absurd all
cleaned_signatures (x ∷ xs) (y ∷ ys) all = rw (all.0.signature, cleaned_signatures xs ys all.1) refl

pub coalesced_signatures : (before after : List Proc) → AllZip IsCoalesced before after → map signature_of after ≡ map signature_of before
coalesced_signatures [] [] all = refl
coalesced_signatures [] (y ∷ ys) all = absurd all
coalesced_signatures (x ∷ xs) [] all = absurd all
coalesced_signatures (x ∷ xs) (y ∷ ys) all = rw (all.0.signature, coalesced_signatures xs ys all.1) refl

pub allocated_signatures : (before after : List Proc) → AllZip IsAllocated before after → map signature_of after ≡ map signature_of before
allocated_signatures [] [] all = refl
allocated_signatures [] (y ∷ ys) all = absurd all
allocated_signatures (x ∷ xs) [] all = absurd all
allocated_signatures (x ∷ xs) (y ∷ ys) all = rw (all.0.signature, allocated_signatures xs ys all.1) refl
