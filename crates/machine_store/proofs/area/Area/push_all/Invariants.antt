use Rattle.std.proofs.Common.{◌≡◌, ◌++◌, take}
use Rattle.machine_store.proofs.area.Area.push_all.Given as goal

abbrev pub invariant-loop-word : goal.invariant-loop-word
invariant-loop-word l =
    l.self ≡ record l.fn.self { words = l.fn.self.words ++ take l.word-index l.words }
