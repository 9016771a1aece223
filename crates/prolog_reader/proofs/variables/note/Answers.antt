use Rattle.std.proofs.Common.{ℕ, ◌<◌, List, nat_eq}
use Rattle.std.proofs.lemmas.Map.Views.{All-values-PutsEntry}
use Rattle.std.specs.Cmp.Lexicographic.{pointwise}
use Rattle.prolog_reader.proofs.variables.note.Goals as goal

pub returns : goal.returns
returns c = λ n small below.
    All-values-PutsEntry (λ x y. pointwise nat_eq x.now y.now) (λ (k : ℕ). k < n) c.args.numbers.now c.insert.new.self c.args.name c.args.number c.in_ok-insert.field-0 c.in_ok-insert.ensures.entries small below
