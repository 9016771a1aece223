use Rattle.std.proofs.Common.{append_assoc}
use Rattle.machine_store.proofs.store.Store.push_saved.Goals as goal

pub returns-clause-ok : goal.returns-clause-ok
returns-clause-ok c =
    rw (c.push-8.ensures, c.push-7.ensures, c.push-6.ensures, c.push-5.ensures, c.push-4.ensures, c.push-3.ensures, c.push-2.ensures, c.push.ensures, c.push_all.ensures, c.word.ensures, c.index_of.ensures, c.index_of-2.ensures, c.index_of-3.ensures, c.index_of-4.ensures, c.len.ensures.len, c.len-2.ensures.len, c.len-3.ensures.len, c.len-below.ensures.len, ← c.self.view_is) (simp append_assoc)
