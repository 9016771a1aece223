use Rattle.std.specs.String.{string_bytes}
use Rattle.aq_term.proofs.AtomPlaces.{known-table, known-place, known-there, new-table, new-place, new-there}
use Rattle.aq_term.proofs.atoms.Atoms.number.Goals as goal

pub returns-in-Some-clause-table : goal.returns-in-Some-clause-table
returns-in-Some-clause-table c =
    rw (← c.self.view_is) (known-table string_bytes c.args.text.now c.self.inside.names.keys c.in-Some.ensures.found)

pub returns-in-Some-clause-place : goal.returns-in-Some-clause-place
returns-in-Some-clause-place c =
    rw (← c.self.view_is) (known-place string_bytes c.args.text.now c.self.inside.names.keys c.in-Some.number c.in-Some.ensures.index)

pub returns-in-Some-clause-there : goal.returns-in-Some-clause-there
returns-in-Some-clause-there c =
    rw (← c.self.view_is) (known-there string_bytes c.args.text.now c.self.inside.names.keys c.in-Some.number c.in-Some.ensures.found c.in-Some.ensures.index)

pub returns-clause-table : goal.returns-clause-table
returns-clause-table c =
    rw (← c.self.view_is, c.in_ok-number.ensures.keys) (new-table string_bytes c.args.text.now c.self.inside.names.keys c.in_ok-from_str.field-0 c.in_ok-from_str.ensures.ok c.in_default.ensures.found)

pub returns-clause-place : goal.returns-clause-place
returns-clause-place c =
    rw (← c.self.view_is) (new-place string_bytes c.args.text.now c.self.inside.names.keys c.in_ok-from_str.field-0 c.in_ok-number.number c.in_ok-from_str.ensures.ok c.in_ok-number.ensures.index)

pub returns-clause-there : goal.returns-clause-there
returns-clause-there c =
    rw (returns-clause-table c, ← c.self.view_is) (new-there string_bytes c.args.text.now c.self.inside.names.keys c.in_ok-number.number c.in_default.ensures.found (rw c.self.view_is (returns-clause-place c)))
