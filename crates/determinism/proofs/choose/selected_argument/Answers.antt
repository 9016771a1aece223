use Rattle.std.proofs.Common.{None, Some, subst}
use Rattle.std.proofs.lemmas.Result.{IfOk-weaker}
use Rattle.determinism.specs.Selection.{has_key, tells_apart, IsLeast, IsSelected}
use Rattle.determinism.proofs.choose.selected_argument.Goals as goal

pub returns-in-Some : goal.returns-in-Some
returns-in-Some c =
    IsSelected.telling c.in-Some.argument
    (subst (IsLeast (tells_apart c.args.predicate.now c.args.call.now) c.args.predicate.now.name.width) c.in-Some.is c.in_ok-argument.ensures)

pub returns-in-None : goal.returns-in-None
returns-in-None c =
    let none : IsLeast (tells_apart c.args.predicate.now c.args.call.now) c.args.predicate.now.name.width None =
    subst (IsLeast (tells_apart c.args.predicate.now c.args.call.now) c.args.predicate.now.name.width) c.in-None.is c.in_ok-argument.ensures in
    IfOk-weaker c.keyed_argument.result (IsLeast (has_key c.args.predicate.now) c.args.predicate.now.name.width)
    (IsSelected c.args.predicate.now c.args.call.now) (λ selected least. IsSelected.keyed selected none least) c.keyed_argument.ensures
