-- Words whose variables have low numbers.
use Rattle.std.proofs.Common.{ℕ, ◌+◌, ◌<◌, ◌≤◌, List, arith, ◌++◌, [], ◌∷◌}
use Rattle.std.specs.Prelude.{All}
use Rattle.std.proofs.lemmas.List.Elements.{All-push}
use Rattle.prolog_reader.specs.declared.word.Word.{Word}
use Rattle.prolog_reader.specs.declared.word.Word.TheVariants as word
use Rattle.prolog_reader.specs.Words.{IsBelow, AllBelow}

pub IsBelow-mono : (m n : ℕ) (w : Word) → m ≤ n → IsBelow m w → IsBelow n w
IsBelow-mono m n (word.Variable k) le h = omega arith
IsBelow-mono m n (word.Name s) le h = tt
IsBelow-mono m n (word.Sign s) le h = tt
IsBelow-mono m n (word.Functor s) le h = tt
IsBelow-mono m n (word.Integer k) le h = tt
IsBelow-mono m n word.WideInteger le h = tt
IsBelow-mono m n word.Open le h = tt
IsBelow-mono m n word.Close le h = tt
IsBelow-mono m n word.OpenList le h = tt
IsBelow-mono m n word.CloseList le h = tt
IsBelow-mono m n word.OpenCurly le h = tt
IsBelow-mono m n word.CloseCurly le h = tt
IsBelow-mono m n (word.Comma s) le h = tt
IsBelow-mono m n word.Bar le h = tt
IsBelow-mono m n word.End le h = tt

pub AllBelow-mono : (m n : ℕ) (ws : List Word) → m ≤ n → AllBelow m ws → AllBelow n ws
AllBelow-mono m n ws le all = λ k d lt. IsBelow-mono m n _ le (all k d lt)

pub AllBelow-push : (n : ℕ) (ws : List Word) (w : Word) → AllBelow n ws → IsBelow n w → AllBelow n (ws ++ w ∷ [])
AllBelow-push n ws w all one = All-push (IsBelow n) ws w all one
