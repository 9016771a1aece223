use Rattle.source_meaning.specs.RuleProgram.{names_behind}
use Rattle.rule_text.proofs.ClauseReads.{no_head, body_behind, clause_reads}
use Rattle.rule_text.proofs.clause.read_clause.Goals as goal

pub returns-in_default : goal.returns-in_default
returns-in_default c clause after reads = no_head c.args.text.now clause after reads c.in_default.ensures

pub returns-in_default-2 : goal.returns-in_default-2
returns-in_default-2 c clause after reads =
    let none = rw c.in_default-2.is at c.in_ok-body.ensures in
    none clause.body after
    (body_behind c.args.text.now clause after reads c.in-Some.head.name.now c.in-Some.head.rest.now c.in-Some.ensures)

pub returns : goal.returns
returns c =
    clause_reads c.args.text.now c.in-Some.head.name.now c.in-Some.head.rest.now (names_behind c.in-Some-2.body.goals.items)
    c.in-Some-2.body.rest.now c.in-Some.ensures (rw c.in-Some-2.is at c.in_ok-body.ensures)
