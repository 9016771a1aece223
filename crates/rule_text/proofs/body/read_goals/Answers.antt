use Rattle.std.proofs.Common.{◌≡◌, [], ◌∷◌, ◌++◌, List, sym, ◌∙◌, ap, subst}
use Rattle.std.specs.Borrow.{Bor}
use Rattle.std.specs.Prelude.{ℕ, codes}
use Rattle.std.proofs.lemmas.List.{map-append}
use Rattle.source_meaning.specs.Program.{Name}
use Rattle.source_meaning.specs.RuleProgram.{names_behind}
use Rattle.rule_text.proofs.BodyReads.{GoalsSoFar, no_first, first_goal, next_goal, no_next, goals_stop, no_stop}
use Rattle.rule_text.proofs.body.read_goals.Goals as goal

pub returns-in_default : goal.returns-in_default
returns-in_default c = no_first c.args.text.now c.in_default.ensures

pub loop-behind-init : goal.loop-behind-init
loop-behind-init c =
    let bytes : List ℕ = codes " :- " ++ c.args.text.now in
    let read : names_behind c.push.new.self.items ≡ c.in-Some.first.name.now ∷ [] =
    ap names_behind c.in_ok-push.ensures.items
    ∙ ap (λ (items : List (Bor (List ℕ))). names_behind (items ++ c.in-Some.first.name ∷ [])) c.new-goals.ensures.items in
    subst (λ (goals : List Name). GoalsSoFar bytes goals c.in-Some.first.rest.now) (sym read)
    (first_goal c.args.text.now c.in-Some.first.name.now c.in-Some.first.rest.now c.in-Some.ensures)

pub returns-in_default-split_name : goal.returns-in_default-split_name
returns-in_default-split_name c =
    no_next (codes " :- " ++ c.args.text.now) c.loop-behind.rest.now (names_behind c.loop-behind.goals.items) c.loop-behind.invariant
    c.in-Some-text_after.behind.now c.in-Some-text_after.ensures c.in_default-split_name.ensures

pub loop-behind-preserved : goal.loop-behind-preserved
loop-behind-preserved c =
    let bytes : List ℕ = codes " :- " ++ c.args.text.now in
    let front = c.in-Some-split_name.front in
    let read : names_behind c.push-in-Some-text_after.new.self.items ≡ names_behind c.loop-behind.goals.items ++ front.name.now ∷ [] =
    ap names_behind c.in_ok-push-2.ensures.items
    ∙ map-append (λ (name : Bor (List ℕ)). name.now) c.loop-behind.goals.items (front.name ∷ []) in
    subst (λ (goals : List Name). GoalsSoFar bytes goals front.rest.now) (sym read)
    (next_goal bytes c.loop-behind.rest.now (names_behind c.loop-behind.goals.items) c.loop-behind.invariant
    c.in-Some-text_after.behind.now front.name.now front.rest.now c.in-Some-text_after.ensures c.in-Some-split_name.ensures)

pub returns-in_default-text_after-2 : goal.returns-in_default-text_after-2
returns-in_default-text_after-2 c =
    no_stop (codes " :- " ++ c.args.text.now) c.loop-behind.rest.now (names_behind c.loop-behind.goals.items) c.loop-behind.invariant
    c.in_default-text_after.ensures c.in_default-text_after-2.ensures

pub returns : goal.returns
returns c =
    goals_stop (codes " :- " ++ c.args.text.now) c.loop-behind.rest.now (names_behind c.loop-behind.goals.items) c.loop-behind.invariant
    c.in-Some-text_after-2.rest.now c.in-Some-text_after-2.ensures
