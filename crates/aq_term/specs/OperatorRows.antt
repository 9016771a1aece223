-- An operator as the definitions see it.
use Rattle.std.specs.Prelude.{ℕ, ◌-◌}
use Rattle.term_meaning.specs.Operators as row
use Rattle.aq_term.specs.declared.operators.Infix.{Infix}
use Rattle.aq_term.specs.declared.operators.Prefix.{Prefix}
use Rattle.aq_term.specs.declared.operators.InfixType.{InfixType}
use Rattle.aq_term.specs.declared.operators.PrefixType.{PrefixType}
use Rattle.aq_term.specs.declared.operators.InfixType.TheVariants.{Xfx, Xfy, Yfx}
use Rattle.aq_term.specs.declared.operators.PrefixType.TheVariants.{Fx, Fy}

abbrev pub left_of : ℕ → InfixType → ℕ
left_of p Xfx = p - 1
left_of p Xfy = p - 1
left_of p Yfx = p

abbrev pub right_of : ℕ → InfixType → ℕ
right_of p Xfx = p - 1
right_of p Xfy = p
right_of p Yfx = p - 1

abbrev pub operand_of : ℕ → PrefixType → ℕ
operand_of p Fx = p - 1
operand_of p Fy = p

abbrev pub infix_row : Infix → row.Infix
infix_row i = record { priority = i.priority; left = left_of i.priority i.kind; right = right_of i.priority i.kind }

abbrev pub prefix_row : Prefix → row.Prefix
prefix_row p = record { priority = p.priority; operand = operand_of p.priority p.kind }
