-- Which predicates a program may define, by the number of their name and by how many arguments they take.
use Rattle.std.specs.Prelude.{ℕ, ◌==◌, Bool, false, not, ◌&&◌, ◌||◌, List, [], ◌∷◌, if◌then◌else◌}
use Rattle.std.specs.List.{list_any}
use Rattle.aq_term.specs.Builtins.{name_of, arity_of}
use Rattle.aq_term.specs.Reserved.{is_reserved}
use Rattle.aq_term.specs.declared.builtin.Builtin.{Builtin}
use Rattle.aq_term.specs.declared.builtin.Builtin.TheVariants as builtin

-- the control constructs: ! true fail, \+ throw, ; -> , and catch
abbrev pub is_control : ℕ → ℕ → Bool
is_control n arity =
    if arity == 0 then n == 37 || n == 38 || n == 39
    else if arity == 1 then n == 6 || n == 41
    else if arity == 2 then n == 5 || n == 3 || n == 4
    else if arity == 3 then n == 40
    else false

abbrev pub builtins : List Builtin
builtins =
    builtin.Unify ∷ builtin.NotUnify ∷ builtin.Var ∷ builtin.Nonvar ∷ builtin.Atom ∷ builtin.Integer ∷ builtin.Number ∷
    builtin.Atomic ∷ builtin.Compound ∷ builtin.Identical ∷ builtin.NotIdentical ∷ builtin.TermLess ∷ builtin.TermAtMost ∷
    builtin.TermGreater ∷ builtin.TermAtLeast ∷ builtin.Compare ∷ builtin.Functor ∷ builtin.Arg ∷ builtin.Univ ∷
    builtin.CopyTerm ∷ builtin.Is ∷ builtin.NumberEqual ∷ builtin.NumberNotEqual ∷ builtin.Less ∷ builtin.AtMost ∷
    builtin.Greater ∷ builtin.AtLeast ∷ builtin.Write ∷ builtin.Writeq ∷ builtin.Nl ∷ builtin.PutChar ∷ []

abbrev pub is_builtin_in : List Builtin → ℕ → ℕ → Bool
is_builtin_in bs n arity = list_any (λ b. name_of b == n && arity_of b == arity) bs

-- opaque, so that the table is not unfolded where it says nothing
unfoldable pub is_builtin : ℕ → ℕ → Bool
is_builtin n arity = is_builtin_in builtins n arity

-- neither a control construct, nor a reserved name, nor a built-in
abbrev pub may_be_defined : ℕ → ℕ → Bool
may_be_defined n arity = not (is_control n arity) && not (is_reserved n arity) && not (is_builtin n arity)
