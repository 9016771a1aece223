use Rattle.std.proofs.Common.{Err, ap}
use Rattle.answer_io.specs.Loaded.{IsRefusedBy}
use Rattle.answer_io.proofs.NamedVariables.{all_named}
use Rattle.answer_io.proofs.Refusals.{refused_as}
use Rattle.answer_io.proofs.load_query.load_query.Goals as goal

pub returns-in-Err-query_entry-clause-refused : goal.returns-in-Err-query_entry-clause-refused
returns-in-Err-query_entry-clause-refused c =
    let named = all_named _ _ c.in-Ok.ensures.read.reading.readable.below in
    rw c.fault_of_entry.ensures
    (refused_as c.args.text.now c.args.entries.now c.in-Ok.read c.in-Err-query_entry.fault (rw c.as_bytes.ensures.value at c.in-Ok.ensures.read)
    (λ e. c.in-Err-query_entry.ensures.not_entry (ap Err e))
    (λ argument e. c.in-Err-query_entry.ensures.mode argument named (ap Err e)))

pub returns-in-Ok-query_of-clause-loaded : goal.returns-in-Ok-query_of-clause-loaded
returns-in-Ok-query_of-clause-loaded c =
    let taken = c.in-Ok-query_entry.ensures.taken (all_named _ _ c.in-Ok.ensures.read.reading.readable.below) in
    record {
      read = c.in-Ok.read;
      is_query = rw c.as_bytes.ensures.value at c.in-Ok.ensures.read;
      place = c.in-Ok-query_entry.place;
      entry = taken.0;
      found = taken.1;
      taken = taken.2;
      made = c.in-Ok-query_of.ensures;
    }

pub returns-in-Err-query_of-clause-refused : goal.returns-in-Err-query_of-clause-refused
returns-in-Err-query_of-clause-refused c = IsRefusedBy.memory
