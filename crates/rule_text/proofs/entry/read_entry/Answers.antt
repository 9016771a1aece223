use Rattle.rule_text.proofs.TextReads.{no_opening, no_entry_name, no_entry_stop, entry_reads}
use Rattle.rule_text.proofs.entry.read_entry.Goals as goal

pub returns-in_default : goal.returns-in_default
returns-in_default c = no_opening c.args.text.now c.in_default.ensures

pub returns-in_default-split_name : goal.returns-in_default-split_name
returns-in_default-split_name c =
    no_entry_name c.args.text.now c.in-Some.opened.now c.in-Some.ensures c.in_default-split_name.ensures

pub returns-in_default-text_after : goal.returns-in_default-text_after
returns-in_default-text_after c =
    no_entry_stop c.args.text.now c.in-Some.opened.now c.in-Some.ensures c.in-Some-split_name.entry.name.now
    c.in-Some-split_name.entry.rest.now c.in-Some-split_name.ensures c.in_default-text_after.ensures

pub returns : goal.returns
returns c =
    entry_reads c.args.text.now c.in-Some.opened.now c.in-Some.ensures c.in-Some-split_name.entry.name.now
    c.in-Some-split_name.entry.rest.now c.in-Some-split_name.ensures c.in-Some-text_after.rest.now c.in-Some-text_after.ensures
