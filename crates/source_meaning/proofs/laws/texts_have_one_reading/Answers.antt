use Rattle.source_meaning.proofs.RuleReading.{one_reading}
use Rattle.source_meaning.proofs.laws.texts_have_one_reading.Goals as goal

pub returns : goal.returns
returns c = one_reading
