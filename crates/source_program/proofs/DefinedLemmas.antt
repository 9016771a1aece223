-- What the table of built-ins says of a name.
use Rattle.std.proofs.Common.{ℕ, ◌≡◌, true, false, ◌&&◌, List, [], ◌∷◌, refl, nat_eq, arith}
use Rattle.std.proofs.lemmas.Bool.Decides.{nat_tests}
use Rattle.aq_term.specs.Builtins.{name_of, arity_of}
use Rattle.aq_term.specs.declared.builtin.Builtin.{Builtin}
use Rattle.aq_term.specs.declared.builtin.Builtin.TheVariants as builtin
use Rattle.source_program.specs.Defined.{builtins, is_builtin, is_builtin_in}

listed : (b : Builtin) → is_builtin_in builtins (name_of b) (arity_of b) ≡ true
listed builtin.Unify = refl
listed builtin.NotUnify = refl
listed builtin.Var = refl
listed builtin.Nonvar = refl
listed builtin.Atom = refl
listed builtin.Integer = refl
listed builtin.Number = refl
listed builtin.Atomic = refl
listed builtin.Compound = refl
listed builtin.Identical = refl
listed builtin.NotIdentical = refl
listed builtin.TermLess = refl
listed builtin.TermAtMost = refl
listed builtin.TermGreater = refl
listed builtin.TermAtLeast = refl
listed builtin.Compare = refl
listed builtin.Functor = refl
listed builtin.Arg = refl
listed builtin.Univ = refl
listed builtin.CopyTerm = refl
listed builtin.Is = refl
listed builtin.NumberEqual = refl
listed builtin.NumberNotEqual = refl
listed builtin.Less = refl
listed builtin.AtMost = refl
listed builtin.Greater = refl
listed builtin.AtLeast = refl
listed builtin.Write = refl
listed builtin.Writeq = refl
listed builtin.Nl = refl
listed builtin.PutChar = refl

pub is_builtin-of : (b : Builtin) (n arity : ℕ) → name_of b ≡ n → arity_of b ≡ arity → is_builtin n arity ≡ true
unfolding is_builtin
is_builtin-of b n arity e f = rw (← e, ← f) (listed b)

not_both : (x y n m : ℕ) → (x ≡ n → y ≡ m → ⊥) → (nat_eq x n && nat_eq y m) ≡ false
not_both x y n m h = grind (arith, nat_tests)

none_in : (bs : List Builtin) (n arity : ℕ) → ((b : Builtin) → name_of b ≡ n → arity_of b ≡ arity → ⊥) → is_builtin_in bs n arity ≡ false
none_in [] n arity h = refl
none_in (b ∷ bs) n arity h = rw (not_both (name_of b) (arity_of b) n arity (h b)) (none_in bs n arity h)

pub is_builtin-none : (n arity : ℕ) → ((b : Builtin) → name_of b ≡ n → arity_of b ≡ arity → ⊥) → is_builtin n arity ≡ false
unfolding is_builtin
is_builtin-none n arity h = none_in builtins n arity h
