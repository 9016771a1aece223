use Rattle.std.proofs.Common.{sym}
use Rattle.source_meaning.specs.RuleProgram.{clauses_of}
use Rattle.rule_text.proofs.TextReads.{no_entry, no_layout_behind, no_clauses_behind, text_reads}
use Rattle.rule_text.proofs.read.read_rule_text.Goals as goal

pub returns-in_default : goal.returns-in_default
returns-in_default c = no_entry c.args.text.now c.in_default.ensures

pub returns-in_default-behind_stop : goal.returns-in_default-behind_stop
returns-in_default-behind_stop c =
    no_layout_behind c.args.text.now c.in-Some.entry.name.now c.in-Some.entry.rest.now c.in-Some.ensures
    (sym c.in_default-behind_stop.ensures)

pub returns-in_default-2 : goal.returns-in_default-2
returns-in_default-2 c =
    no_clauses_behind c.args.text.now c.in-Some.entry.name.now c.in-Some.entry.rest.now c.in-Some.ensures
    c.in-Some-behind_stop.rest.now (sym c.in-Some-behind_stop.ensures) (rw c.in_default-2.is at c.in_ok-clauses.ensures)

pub returns : goal.returns
returns c =
    text_reads c.args.text.now c.in-Some.entry.name.now c.in-Some.entry.rest.now c.in-Some.ensures
    c.in-Some-behind_stop.rest.now (sym c.in-Some-behind_stop.ensures) (clauses_of c.in-Some-2.clauses.items)
    (rw c.in-Some-2.is at c.in_ok-clauses.ensures)
