-- Laws of what is told of a source's and a sink's bytes.
use Rattle.std.proofs.Common.{◌≡◌, ℕ, List, [], ◌++◌, Option, None, Some, refl, sym, ◌∙◌, ap, append_assoc, append-nil}
use Rattle.std.specs.Io.KnownBytes.{Appends, Consumes, Keeps}

-- nothing was consumed yet
pub Consumes-start : (told : Option (List ℕ)) → Consumes told told []
Consumes-start None = tt
Consumes-start (Some left) = refl

-- what is consumed after more is consumed with it
pub Consumes-more : (a b c : Option (List ℕ)) (front next : List ℕ) → Consumes a b front → Consumes b c next → Consumes a c (front ++ next)
Consumes-more None b c front next first second = tt
Consumes-more (Some xs) None c front next first second = absurd first
Consumes-more (Some xs) (Some ys) None front next first second = absurd second
Consumes-more (Some xs) (Some ys) (Some zs) front next first second =
    first ∙ ap (λ (rest : List ℕ). front ++ rest) second ∙ sym (append_assoc front next zs)

-- a fault consumes nothing
pub Consumes-kept : (a b c : Option (List ℕ)) (front : List ℕ) → Consumes a b front → Keeps b c → Consumes a c front
Consumes-kept None b c front first kept = tt
Consumes-kept (Some xs) None c front first kept = absurd first
Consumes-kept (Some xs) (Some ys) None front first kept = absurd kept
Consumes-kept (Some xs) (Some ys) (Some zs) front first kept = first ∙ ap (λ (rest : List ℕ). front ++ rest) (sym kept)

-- nothing was taken yet
pub Appends-start : (told : Option (List ℕ)) → Appends told told []
Appends-start None = tt
Appends-start (Some taken) = sym (append-nil taken)

-- what is taken after more is taken with it
pub Appends-more : (a b c : Option (List ℕ)) (front next : List ℕ) → Appends a b front → Appends b c next → Appends a c (front ++ next)
Appends-more None b c front next first second = tt
Appends-more (Some xs) None c front next first second = absurd first
Appends-more (Some xs) (Some ys) None front next first second = absurd second
Appends-more (Some xs) (Some ys) (Some zs) front next first second =
    second ∙ ap (λ (taken : List ℕ). taken ++ next) first ∙ append_assoc xs front next

-- a fault takes nothing
pub Appends-kept : (a b c : Option (List ℕ)) (front : List ℕ) → Appends a b front → Keeps b c → Appends a c front
Appends-kept None b c front first kept = tt
Appends-kept (Some xs) None c front first kept = absurd first
Appends-kept (Some xs) (Some ys) None front first kept = absurd kept
Appends-kept (Some xs) (Some ys) (Some zs) front first kept = kept ∙ first
