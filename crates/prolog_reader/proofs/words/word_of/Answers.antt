use Rattle.prolog_reader.proofs.words.word_of.Goals as goal

pub returns-in_ok-name-in-Name-clause-below : goal.returns-in_ok-name-in-Name-clause-below
returns-in_ok-name-in-Name-clause-below c = c.named.ensures _

pub returns-in-Punct-clause-below : goal.returns-in-Punct-clause-below
returns-in-Punct-clause-below c = c.punctuation.ensures _
