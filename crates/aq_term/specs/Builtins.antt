-- The built-ins, by the number of their name and by how many arguments they take.
use Rattle.std.specs.Prelude.{ℕ}
use Rattle.aq_term.specs.declared.builtin.Builtin.{Builtin}
use Rattle.aq_term.specs.declared.builtin.Builtin.TheVariants as builtin

abbrev pub name_of : Builtin → ℕ
name_of builtin.Unify = 7
name_of builtin.NotUnify = 8
name_of builtin.Var = 49
name_of builtin.Nonvar = 50
name_of builtin.Atom = 51
name_of builtin.Integer = 52
name_of builtin.Number = 53
name_of builtin.Atomic = 54
name_of builtin.Compound = 55
name_of builtin.Identical = 9
name_of builtin.NotIdentical = 10
name_of builtin.TermLess = 11
name_of builtin.TermAtMost = 12
name_of builtin.TermGreater = 13
name_of builtin.TermAtLeast = 14
name_of builtin.Compare = 56
name_of builtin.Functor = 57
name_of builtin.Arg = 58
name_of builtin.Univ = 15
name_of builtin.CopyTerm = 59
name_of builtin.Is = 16
name_of builtin.NumberEqual = 17
name_of builtin.NumberNotEqual = 18
name_of builtin.Less = 19
name_of builtin.AtMost = 20
name_of builtin.Greater = 21
name_of builtin.AtLeast = 22
name_of builtin.Write = 60
name_of builtin.Writeq = 61
name_of builtin.Nl = 62
name_of builtin.PutChar = 63

abbrev pub arity_of : Builtin → ℕ
arity_of builtin.Unify = 2
arity_of builtin.NotUnify = 2
arity_of builtin.Var = 1
arity_of builtin.Nonvar = 1
arity_of builtin.Atom = 1
arity_of builtin.Integer = 1
arity_of builtin.Number = 1
arity_of builtin.Atomic = 1
arity_of builtin.Compound = 1
arity_of builtin.Identical = 2
arity_of builtin.NotIdentical = 2
arity_of builtin.TermLess = 2
arity_of builtin.TermAtMost = 2
arity_of builtin.TermGreater = 2
arity_of builtin.TermAtLeast = 2
arity_of builtin.Compare = 3
arity_of builtin.Functor = 3
arity_of builtin.Arg = 3
arity_of builtin.Univ = 2
arity_of builtin.CopyTerm = 2
arity_of builtin.Is = 2
arity_of builtin.NumberEqual = 2
arity_of builtin.NumberNotEqual = 2
arity_of builtin.Less = 2
arity_of builtin.AtMost = 2
arity_of builtin.Greater = 2
arity_of builtin.AtLeast = 2
arity_of builtin.Write = 1
arity_of builtin.Writeq = 1
arity_of builtin.Nl = 0
arity_of builtin.PutChar = 1
