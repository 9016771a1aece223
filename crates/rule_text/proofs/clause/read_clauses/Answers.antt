use Rattle.std.proofs.Common.{◌≡◌, ◌≢◌, ◌<◌, List, [], ◌∷◌, ◌++◌, length, sym, ◌∙◌, ap, subst, arith}
use Rattle.std.proofs.lemmas.List.{map-append}
use Rattle.source_meaning.specs.Program.{Clause}
use Rattle.source_meaning.specs.RuleFront.{IsClause}
use Rattle.source_meaning.specs.RuleProgram.{clause_of, clauses_of}
use Rattle.rule_text.proofs.ClauseReads.{ClausesSoFar, after_shorter, stop_shorter, nothing_left, next_clause, no_clause, no_layout, all_read}
use Rattle.rule_text.proofs.clause.read_clauses.Goals as goal

pub returns-in_default : goal.returns-in_default
returns-in_default c =
    let some : c.loop-rest.rest.now ≢ [] =
    λ none. let zero : length c.loop-rest.rest.now ≡ 0 = ap length none in absurd (grind arith) in
    no_clause c.args.text.now c.loop-rest.rest.now (clauses_of c.loop-rest.clauses.items) c.loop-rest.invariant some
    (rw c.in_default.is at c.in_ok-front.ensures)

pub returns-in_default-behind_stop : goal.returns-in_default-behind_stop
returns-in_default-behind_stop c =
    let some : c.loop-rest.rest.now ≢ [] =
    λ none. let zero : length c.loop-rest.rest.now ≡ 0 = ap length none in absurd (grind arith) in
    no_layout c.args.text.now c.loop-rest.rest.now (clauses_of c.loop-rest.clauses.items) c.loop-rest.invariant
    (clause_of c.in-Some.front.clause) c.in-Some.front.rest.now some (rw c.in-Some.is at c.in_ok-front.ensures)
    (sym c.in_default-behind_stop.ensures)

pub loop-rest-smaller : goal.loop-rest-smaller
loop-rest-smaller c =
    let reads : IsClause c.loop-rest.rest.now (clause_of c.in-Some.front.clause) c.in-Some.front.rest.now =
    rw c.in-Some.is at c.in_ok-front.ensures in
    let shorter = after_shorter c.loop-rest.rest.now (clause_of c.in-Some.front.clause) c.in-Some.front.rest.now reads in
    let no_longer = stop_shorter c.in-Some.front.rest.now c.in-Some-behind_stop.behind.now (sym c.in-Some-behind_stop.ensures) in
    let smaller : length c.in-Some-behind_stop.behind.now < length c.loop-rest.rest.now = omega arith in
    smaller

pub loop-rest-preserved : goal.loop-rest-preserved
loop-rest-preserved c =
    let some : c.loop-rest.rest.now ≢ [] =
    λ none. let zero : length c.loop-rest.rest.now ≡ 0 = ap length none in absurd (grind arith) in
    let clause : Clause = clause_of c.in-Some.front.clause in
    let read : clauses_of c.push.new.self.items ≡ clauses_of c.loop-rest.clauses.items ++ clause ∷ [] =
    ap clauses_of c.in_ok-push.ensures.items ∙ map-append clause_of c.loop-rest.clauses.items (c.in-Some.front.clause ∷ []) in
    subst (λ (clauses : List Clause). ClausesSoFar c.args.text.now clauses c.in-Some-behind_stop.behind.now) (sym read)
    (next_clause c.args.text.now c.loop-rest.rest.now (clauses_of c.loop-rest.clauses.items) c.loop-rest.invariant clause
    c.in-Some.front.rest.now c.in-Some-behind_stop.behind.now some (rw c.in-Some.is at c.in_ok-front.ensures)
    (sym c.in-Some-behind_stop.ensures))

pub returns : goal.returns
returns c =
    let zero : length c.loop-rest.rest.now ≡ 0 = grind arith in
    all_read c.args.text.now c.loop-rest.rest.now (clauses_of c.loop-rest.clauses.items) c.loop-rest.invariant
    (nothing_left c.loop-rest.rest.now zero)
