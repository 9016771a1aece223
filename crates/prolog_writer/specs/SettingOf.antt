-- A setting as the definitions see it.
use Rattle.term_text.specs.Written.{Setting}
use Rattle.prolog_writer.specs.QuotingOf.{is_quoted}
use Rattle.prolog_writer.specs.declared.setting.Setting as declared

abbrev pub setting_of : declared.Setting → Setting
setting_of s = record { table = s.atoms.now; quoted = is_quoted s.quoting; names = s.variables.now }
