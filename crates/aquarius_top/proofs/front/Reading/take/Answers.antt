use Rattle.std.proofs.Common.{◌≡◌}
use Rattle.prolog_reader.specs.declared.fault.ReadFault.TheVariants as faults
use Rattle.aquarius_top.proofs.FrontRows.{reads_later, reads_more, reads_end}
use Rattle.aquarius_top.proofs.front.Reading.take.Goals as goal

pub returns-then-is_some-clause-reads : goal.returns-then-is_some-clause-reads
returns-then-is_some-clause-reads c clauses number so = reads_later _ _ _ _ c.if-is_some.ensures so

pub returns-in-Ok-clause-reads : goal.returns-in-Ok-clause-reads
returns-in-Ok-clause-reads c clauses number so =
    reads_more _ clauses _ _ _ _ c.in-Ok.read c.if-is_some.ensures so
    (record { readable = c.in-Ok.ensures.readable; weight = c.in-Ok.ensures.weight }) c.push.ensures.ok

pub returns-in_ok-kind-in-Err-clause-reads : goal.returns-in_ok-kind-in-Err-clause-reads
returns-in_ok-kind-in-Err-clause-reads c clauses number so =
    reads_end _ _ _ _ _ _ c.if-is_some.ensures so number
    (λ many.
    let same = c.in-Err.ensures.brackets many in
    let depth : c.in-Err.fault ≡ faults.Depth = cc in
    c.in_ok-kind-in-Err.ensures depth)
