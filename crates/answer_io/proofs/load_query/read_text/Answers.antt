use Rattle.std.proofs.Common.{arith}
use Rattle.answer_io.specs.QueryText.{IsNoQuery}
use Rattle.answer_io.specs.Loaded.{IsRefusedBy}
use Rattle.answer_io.proofs.load_query.read_text.Goals as goal

pub returns-then-text-gt-MOST_BYTES-clause-refused : goal.returns-then-text-gt-MOST_BYTES-clause-refused
returns-then-text-gt-MOST_BYTES-clause-refused c entries = IsRefusedBy.no_term (IsNoQuery.too_long (omega arith))

pub returns-in-Err-Memory-clause-refused : goal.returns-in-Err-Memory-clause-refused
returns-in-Err-Memory-clause-refused c entries = IsRefusedBy.memory

pub returns-in-Err-Memory-read_query-clause-refused : goal.returns-in-Err-Memory-read_query-clause-refused
returns-in-Err-Memory-read_query-clause-refused c entries = IsRefusedBy.memory

pub returns-in-Err-At-clause-refused : goal.returns-in-Err-At-clause-refused
returns-in-Err-At-clause-refused c entries =
    IsRefusedBy.no_term (IsNoQuery.tokens c.in-Err-At._at (rw c.in-Err-At.field-0-is at c.in-Err-At.ensures.fault))

pub returns : goal.returns
returns c = record {
  read = tt;
  refused = λ entries. IsRefusedBy.no_term (IsNoQuery.reading (omega arith) c.in-Ok.tokens c.in-Ok.ensures.found);
}
