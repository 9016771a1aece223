use Rattle.prolog_reader.proofs.WordLemmas.{AllBelow-mono}
use Rattle.prolog_reader.proofs.words.push_token.Goals as goal

pub returns-in-Codes-clause-below : goal.returns-in-Codes-clause-below
returns-in-Codes-clause-below c = λ all. c.in_ok-push_codes.ensures.below _ all

pub returns-clause-below : goal.returns-clause-below
returns-clause-below c =
    λ all. c.push_word.ensures.below _ (AllBelow-mono _ _ _ c.word_of.ensures.keeps all) c.in_ok-word.ensures.below
