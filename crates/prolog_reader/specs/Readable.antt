-- What every term that is read keeps.
use Rattle.std.specs.Prelude.{ℕ, ◌+◌, ◌<◌, ◌≤◌, length}
use Rattle.term_meaning.specs.Plain.{nodes, depth}
use Rattle.aq_term.specs.PlainOf.{plain}
use Rattle.aq_term.specs.declared.read_term.ReadTerm.{ReadTerm}
use Rattle.prolog_reader.specs.Below.{Below}

-- its variables are below the number of its names, its depth is at most 4,096, and it has no more nodes than a weight
pub record IsReadable (r : ReadTerm) (most : ℕ) : Type 0 where
  pub below : Below (length r.names) (plain r.term)
  pub shallow : depth (plain r.term) ≤ 4096
  pub light : nodes (plain r.term) ≤ most
  pub few : length r.names ≤ most
