use Rattle.std.proofs.Common.{arith}
use Rattle.std.proofs.lemmas.Iterator.{YieldsList-from_chars}
use Rattle.std.proofs.lemmas.Iterator.Consumers.{YieldsList-turn}
use Rattle.std.proofs.lemmas.List.{length_push}
use Rattle.prolog_reader.proofs.words.push_codes.Goals as goal

pub loop-c-preserved : goal.loop-c-preserved
loop-c-preserved c =
    let t = YieldsList-turn (YieldsList-from_chars c.args.text.now c.utf8.text cc) c.loop-c.yielded _ c.loop-c.yielded_by _ _ c.in-Some.c c.in-Some.is c.next.ensures.steps in
    let n = length_push c.loop-c.yielded c.in-Some.c in
    record {
      some = omega (arith, t.0);
      count = omega (arith, c.in_ok-push_word-2.ensures.count, c.in_ok-push_word-3.ensures.count);
      below = λ m all. c.push_word-in-loop-c-2.ensures.below m (c.push_word-in-loop-c.ensures.below m (c.loop-c.invariant.below m all) (c.loop-c.invariant.before m)) tt;
      before = λ m. tt;
    }

pub returns-then-is_empty-clause-below : goal.returns-then-is_empty-clause-below
returns-then-is_empty-clause-below c = λ m all. c.push_word.ensures.below m all tt

pub returns-clause-below : goal.returns-clause-below
returns-clause-below c = λ m all. c.push_word-2.ensures.below m (c.loop-c.invariant.below m all) tt
