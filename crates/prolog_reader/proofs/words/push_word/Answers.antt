use Rattle.prolog_reader.proofs.WordLemmas.{AllBelow-push}
use Rattle.prolog_reader.proofs.words.push_word.Goals as goal

pub returns-clause-below : goal.returns-clause-below
returns-clause-below c = λ n all one. rw c.in_ok-push.ensures.items (AllBelow-push n _ _ all one)
