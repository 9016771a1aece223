-- A gap as the definitions see it.
use Rattle.term_text.specs.Pieces.{Gap, closed, after_infix, after_prefix}
use Rattle.prolog_writer.specs.declared.gap.Gap as declared
use Rattle.prolog_writer.specs.declared.gap.Gap.TheVariants.{Closed, AfterInfix, AfterPrefix}

abbrev pub gap_of : declared.Gap → Gap
gap_of Closed = closed
gap_of AfterInfix = after_infix
gap_of AfterPrefix = after_prefix
