use Rattle.std.proofs.Common.{Some, ap, sym, ◌∙◌}
use Rattle.prolog_reader.specs.Machine.{read_of}
use Rattle.prolog_reader.specs.declared.built.Built.{Built}
use Rattle.prolog_reader.proofs.ReadLemmas.{readable}
use Rattle.prolog_reader.proofs.read.read.Goals as goal

pub returns-in-Whole-clause-readable : goal.returns-in-Whole-clause-readable
returns-in-Whole-clause-readable c =
    let is = ap read_of (sym c.as_slice.ensures.value) ∙ c.in_ok-term.ensures.ok ∙ ap (λ (b : Built). Some b) c.in-Whole.is in
    readable c.args.tokens.now c.in_ok-words.field-0.words.items c.in-Whole.field-0 c.in_ok-words.field-0.names c.args.weight c.requires.weighed c.in_ok-words.ensures.below is c.in_ok-words.ensures.count c.in_ok-words.ensures.names
