use Rattle.std.proofs.Common.{rules, ◌≡◌, List, map, ap, ◌∙◌, subst}
use Rattle.source_program.specs.Limits.{KeptLimits}
use Rattle.source_program.specs.TextKeys.{Defined, defined, clause_row}
use Rattle.source_program.specs.TextRefusals.{IsFaultBy, IsTextRefusal}
use Rattle.source_program.proofs.EntryRefusals.{limit_refused, entry_refused, known_agree, is_text}
use Rattle.source_program.proofs.gathering.gather.Goals as goal

pub returns-in_err-test_limits-clause-refused : goal.returns-in_err-test_limits-clause-refused
returns-in_err-test_limits-clause-refused c =
    let rows : map clause_row c.as_slice.result.now ≡ defined c.args.clauses.now =
    ap (map clause_row) c.as_slice.ensures.value ∙ c.in_ok-forms.ensures.clauses in
    let refused : IsFaultBy (IsTextRefusal c.args.clauses.now) c.in_err-test_limits.field-0.0 =
    limit_refused _ _ _ c.in_err-test_limits.ensures.refused rows c.in_ok-forms.ensures.forms in
    search (rules, refused)

pub returns-in_err-test_entries-clause-refused : goal.returns-in_err-test_entries-clause-refused
returns-in_err-test_entries-clause-refused c =
    let rows : map clause_row c.as_slice.result.now ≡ defined c.args.clauses.now =
    ap (map clause_row) c.as_slice.ensures.value ∙ c.in_ok-forms.ensures.clauses in
    let kept : KeptLimits (defined c.args.clauses.now) =
    subst (λ (l : List Defined). KeptLimits l) rows c.in_ok-test_limits.ensures.kept in
    let refused : IsFaultBy (IsTextRefusal c.args.clauses.now) c.in_err-test_entries.field-0.0 =
    entry_refused _ _ _ _ c.in_err-test_entries.ensures.refused c.in_ok-forms.ensures.entries
    (known_agree c.args.clauses.now _ _ c.in_ok-gathered.ensures.keys c.in_ok-forms.ensures.clauses) c.in_ok-forms.ensures.forms kept in
    search (rules, refused)

pub returns-clause-accepted : goal.returns-clause-accepted
returns-clause-accepted c =
    let rows : map clause_row c.as_slice.result.now ≡ defined c.args.clauses.now =
    ap (map clause_row) c.as_slice.ensures.value ∙ c.in_ok-forms.ensures.clauses in
    let kept : KeptLimits (defined c.args.clauses.now) =
    subst (λ (l : List Defined). KeptLimits l) rows c.in_ok-test_limits.ensures.kept in
    is_text _ _ _ c.in_ok-forms.ensures.forms kept c.in_ok-forms.ensures.entries
    (known_agree c.args.clauses.now _ _ c.in_ok-gathered.ensures.keys c.in_ok-forms.ensures.clauses)
    c.in_ok-test_entries.ensures.entered c.in_ok-test_entries.ensures.defined
