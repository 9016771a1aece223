-- One element more on both sides.
use Rattle.std.proofs.Common.{List, [], ◌∷◌, ◌++◌}
use Rattle.std.specs.List.{AllZip}

pub AllZip-push : {A B : Type 0} (R : A → B → Type 0) (xs : List A) (ys : List B) (x : A) (y : B) → AllZip R xs ys → R x y → AllZip R (xs ++ x ∷ []) (ys ++ y ∷ [])
AllZip-push R [] [] x y all one = (one, tt)
AllZip-push R [] (z ∷ ys) x y all one = absurd all
AllZip-push R (z ∷ xs) [] x y all one = absurd all
AllZip-push R (z ∷ xs) (w ∷ ys) x y all one = (all.0, AllZip-push R xs ys x y all.1 one)
