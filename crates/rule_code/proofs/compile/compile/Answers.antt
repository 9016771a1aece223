use Rattle.std.proofs.Common.{◌≡◌, ℕ, ◌<◌, ◌&&◌, Bool, true, false, List, [], filter, fold, length, map, replicate, slice_index_or, sym, subst, ap, ◌∙◌}
use Rattle.aq_term.specs.declared.proc_name.ProcName.{ProcName}
use Rattle.source_meaning.specs.Program.{Name, Program}
use Rattle.source_meaning.specs.RuleProgram.{clauses_of, program_of}
use Rattle.bam_code.specs.declared.code.Code.{Code}
use Rattle.rule_code.specs.declared.rule.Rule.{Rule}
use Rattle.rule_code.specs.CodeAt.{Body}
use Rattle.rule_code.specs.CodeOf.{proc_of}
use Rattle.rule_code.specs.Compiled.{predicate_with, predicates_in}
use Rattle.rule_code.specs.Passes.{NotedRules, note_rule, Groups, placed, row_at, is_defined, all_rows, ReachedFrom}
use Rattle.bam_meaning.specs.Linked.{PlainProcs}
use Rattle.rule_code.proofs.PlainCode.{procs_plain}
use Rattle.rule_code.proofs.MadeLemmas.{Made, made_by, made_open, made_compiled}
use Rattle.rule_code.proofs.compile.compile.Goals as goal

pub returns-then-not-is_closed-clause-undefined : goal.returns-then-not-is_closed-clause-undefined
returns-then-not-is_closed-clause-undefined c = λ same closed.
    let program : Program = program_of c.args.program.now in
    let rules : List Rule = c.in_ok-rules.rules.items in
    let groups : Groups = record { order = c.in_ok-grouped.grouped.order.items; rows = c.in_ok-grouped.grouped.rows.items } in
    let noted = c.in_ok-rules.ensures ∙ ap (λ clauses. fold note_rule (record { texts = c.number.new.atoms; rules = [] }) (clauses_of clauses)) c.as_slice.ensures.value in
    let grouped = c.in_ok-grouped.ensures ∙ ap (λ (n : ℕ). fold placed (record { order = []; rows = replicate n [] }) rules) c.len.ensures in
    let made : Made c.number_rules.new.atoms program c.in_ok-entry.entry groups = made_by c.args.atoms.now c.number.new.atoms c.number_rules.new.atoms program c.in_ok-entry.entry rules groups c.in_ok-entry.ensures.table c.in_ok-entry.ensures.name noted grouped in
    let rows_are : c.as_slice-rows.result.now ≡ groups.rows = c.as_slice-rows.ensures.value in
    let test = ap (λ (rows : List (List Body)). is_defined rows c.in_ok-entry.entry && all_rows (is_defined rows) rows) (sym rows_are) ∙ sym c.is_closed.ensures in
    made_open c.number_rules.new.atoms program c.in_ok-entry.entry groups made (test ∙ c.if-not-is_closed.true) closed

pub returns-clause-compiled : goal.returns-clause-compiled
returns-clause-compiled c =
    let program : Program = program_of c.args.program.now in
    let rules : List Rule = c.in_ok-rules.rules.items in
    let groups : Groups = record { order = c.in_ok-grouped.grouped.order.items; rows = c.in_ok-grouped.grouped.rows.items } in
    let noted = c.in_ok-rules.ensures ∙ ap (λ clauses. fold note_rule (record { texts = c.number.new.atoms; rules = [] }) (clauses_of clauses)) c.as_slice.ensures.value in
    let grouped = c.in_ok-grouped.ensures ∙ ap (λ (n : ℕ). fold placed (record { order = []; rows = replicate n [] }) rules) c.len.ensures in
    let made : Made c.number_rules.new.atoms program c.in_ok-entry.entry groups = made_by c.args.atoms.now c.number.new.atoms c.number_rules.new.atoms program c.in_ok-entry.entry rules groups c.in_ok-entry.ensures.table c.in_ok-entry.ensures.name noted grouped in
    let rows_are : c.as_slice-rows.result.now ≡ groups.rows = c.as_slice-rows.ensures.value in
    let test = ap (λ (rows : List (List Body)). is_defined rows c.in_ok-entry.entry && all_rows (is_defined rows) rows) (sym rows_are) ∙ sym c.is_closed.ensures in
    let reached : List Bool = c.in_ok-reached.reached.items in
    let start : ℕ = c.in_ok-entry.entry.name.number in
    let sound = subst (λ (rows : List (List Body)). (number : ℕ) → slice_index_or reached number false ≡ true → ReachedFrom rows start number) rows_are c.in_ok-reached.ensures.sound in
    let complete = subst (λ (rows : List (List Body)). (number : ℕ) → ReachedFrom rows start number → number < length rows → slice_index_or reached number false ≡ true) rows_are c.in_ok-reached.ensures.complete in
    let by_rows = ap (λ (rows : List (List Body)). map (λ (name : ProcName). proc_of (predicate_with name (row_at rows name.name.number))) (filter (λ (name : ProcName). slice_index_or c.as_slice-3.result.now name.name.number false) c.as_slice-2.result.now)) rows_are in
    let by_order = ap (λ (order : List ProcName). map (λ (name : ProcName). proc_of (predicate_with name (row_at groups.rows name.name.number))) (filter (λ (name : ProcName). slice_index_or c.as_slice-3.result.now name.name.number false) order)) c.as_slice-2.ensures.value in
    let by_reached = ap (λ (marks : List Bool). map (λ (name : ProcName). proc_of (predicate_with name (row_at groups.rows name.name.number))) (filter (λ (name : ProcName). slice_index_or marks name.name.number false) groups.order)) c.as_slice-3.ensures.value in
    let code : Code = record { entries = c.in_ok-entries_of.field-0; imports = c.new.result; pool = c.new-2.result; procs = c.in_ok-procs.procs } in
    made_compiled c.number_rules.new.atoms program c.in_ok-entry.entry groups made (test ∙ c.if-not-is_closed.false) reached sound complete code (c.in_ok-procs.ensures ∙ by_rows ∙ by_order ∙ by_reached) c.in_ok-entries_of.ensures c.new.ensures c.new-2.ensures

pub returns-clause-plain : goal.returns-clause-plain
returns-clause-plain c =
    let compiled = returns-clause-compiled c in
    subst PlainProcs (sym compiled.procs_are) (procs_plain (predicates_in c.number_rules.new.atoms (program_of c.args.program.now).clauses compiled.keep))

pub returns-clause-table : goal.returns-clause-table
returns-clause-table c =
    let program : Program = program_of c.args.program.now in
    let noted = c.in_ok-rules.ensures ∙ ap (λ clauses. fold note_rule (record { texts = c.number.new.atoms; rules = [] }) (clauses_of clauses)) c.as_slice.ensures.value in
    ap (λ (n : NotedRules). n.texts) noted
    ∙ ap (λ (texts : List Name). (fold note_rule (record { texts = texts; rules = [] }) program.clauses).texts) c.in_ok-entry.ensures.table
