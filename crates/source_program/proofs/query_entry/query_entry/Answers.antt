use Rattle.std.proofs.Common.{get_or}
use Rattle.source_program.proofs.EntryLemmas.{entry_of_compound, no_entry_of_compound}
use Rattle.source_program.proofs.CountLemmas.{answer_compound, refused_compound}
use Rattle.source_program.proofs.query_entry.query_entry.Goals as goal

pub returns-in-Compound-clause-entry : goal.returns-in-Compound-clause-entry
returns-in-Compound-clause-entry c =
    rw c.in-Compound.is
    (rw (← c.as_slice-in-Compound-2.ensures)
    (entry_of_compound _ _ _ _ _ c.as_slice-in-Compound.ensures c.entry_of-in-Compound.ensures.entry))

pub returns-in-Compound-clause-taken : goal.returns-in-Compound-clause-taken
returns-in-Compound-clause-taken c =
    rw c.in-Compound.is
    (rw (← c.as_slice-in-Compound-2.ensures, ← c.as_slice-in-Compound.ensures)
    (λ named. answer_compound _ _ _ _ (c.entry_of-in-Compound.ensures.taken (rw c.len-in-Compound.ensures named))))

pub returns-in-Compound-clause-mode : goal.returns-in-Compound-clause-mode
returns-in-Compound-clause-mode c argument =
    rw c.in-Compound.is
    (rw (← c.as_slice-in-Compound-2.ensures, ← c.as_slice-in-Compound.ensures)
    (λ named is. refused_compound _ argument _ _ (c.entry_of-in-Compound.ensures.mode argument (rw c.len-in-Compound.ensures named) is)))

pub returns-in-Compound-clause-not_entry : goal.returns-in-Compound-clause-not_entry
returns-in-Compound-clause-not_entry c refused =
    rw c.in-Compound.is
    (rw (← c.as_slice-in-Compound-2.ensures)
    (λ k d below. no_entry_of_compound (get_or c.as_slice-in-Compound-2.result.now k d) _ _ _ c.as_slice-in-Compound.ensures (c.entry_of-in-Compound.ensures.not_entry refused k d below)))
