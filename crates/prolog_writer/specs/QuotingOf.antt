-- Whether names are quoted.
use Rattle.std.specs.Prelude.{Bool, true, false}
use Rattle.prolog_writer.specs.declared.spelling.Quoting.{Quoting}
use Rattle.prolog_writer.specs.declared.spelling.Quoting.TheVariants.{Plain, Quoted}

abbrev pub is_quoted : Quoting → Bool
is_quoted Plain = false
is_quoted Quoted = true
