-- Kernel programs that the analysis and the emission of code take.
use Rattle.std.specs.Prelude.{ℕ, ◌≡◌, ◌≢◌, ◌+◌, ◌-◌, ◌<◌, ◌≤◌, Bool, true, false, cond, List, [], ◌∷◌, ◌++◌, Option, Some, None, All, AllPairs, Contains, length, ⊤}
use Rattle.term_meaning.specs.Plain.{Plain, variable, integer, atom, compound, variables}
use Rattle.aq_term.specs.PlainOf.{plain}
use Rattle.aq_term.specs.Builtins.{arity_of}
use Rattle.aq_term.specs.declared.atom.Atom.{Atom}
use Rattle.aq_term.specs.declared.builtin.Builtin.{Builtin}
use Rattle.aq_term.specs.declared.builtin.Builtin.TheVariants as builtin
use Rattle.aq_term.specs.declared.entry.Entry.{Entry}
use Rattle.aq_term.specs.declared.proc_name.ProcName.{ProcName}
use Rattle.aq_term.specs.declared.term.Term.{Term}
use Rattle.kernel_ir.specs.declared.kernel_clause.KernelClause.{KernelClause}
use Rattle.kernel_ir.specs.declared.kernel_goal.KernelGoal.{KernelGoal}
use Rattle.kernel_ir.specs.declared.kernel_goal.KernelGoal.TheVariants as goal
use Rattle.kernel_ir.specs.declared.kernel_predicate.KernelPredicate.{KernelPredicate}

-- what a clause may name: variables below a number, and one of them, the barrier variable, only as a barrier
pub record Scope : Type 0 where
  pub variables : ℕ
  pub barrier : Option ℕ

-- the variable that is a predicate's barrier
abbrev pub barrier_of : KernelPredicate → Option ℕ
barrier_of p = cond p.barrier (Some (p.name.width - 1)) None

-- a variable that terms of the clause may have
abbrev pub IsPlainVariable : Scope → ℕ → Type 0
IsPlainVariable s v = (v < s.variables) × (s.barrier ≢ Some v)

abbrev pub IsPlainTerm : Scope → Plain → Type 0
IsPlainTerm s t = All (IsPlainVariable s) (variables t)

-- a variable or a constant
abbrev pub IsArgument : Scope → Plain → Type 0
IsArgument s (variable v) = IsPlainVariable s v
IsArgument s (integer z) = ⊤
IsArgument s (atom a) = ⊤
IsArgument s (compound a ts) = ⊥

-- one of the predicates has this name, and has a barrier or none
abbrev pub IsPredicateNamed : List KernelPredicate → ProcName → Bool → Type 0
IsPredicateNamed ps name barrier = (p : KernelPredicate) × Contains ps p × (p.name ≡ name) × (p.barrier ≡ barrier)

-- a call of one of the predicates
pub data IsCall (ps : List KernelPredicate) (s : Scope) : ProcName → List Plain → Type 0 where
  -- of one without a barrier
  plain_call : (name : ProcName) (ts : List Plain) → IsPredicateNamed ps name false → length ts ≡ name.width → All (IsArgument s) ts →
      IsCall ps s name ts
  -- of one that is given the caller's own depth as its barrier
  gives_depth : (name : ProcName) (ts : List Plain) → IsPredicateNamed ps name true → length ts + 1 ≡ name.width → All (IsArgument s) ts →
      IsCall ps s name ts
  -- of one that is given the caller's own barrier
  gives_barrier : (name : ProcName) (ts : List Plain) (b : ℕ) → IsPredicateNamed ps name true → length ts + 1 ≡ name.width →
      All (IsArgument s) ts → s.barrier ≡ Some b → IsCall ps s name (ts ++ variable b ∷ [])

-- whether a built-in evaluates both its sides
abbrev pub compares_numbers : Builtin → Bool
compares_numbers builtin.NumberEqual = true
compares_numbers builtin.NumberNotEqual = true
compares_numbers builtin.Less = true
compares_numbers builtin.AtMost = true
compares_numbers builtin.Greater = true
compares_numbers builtin.AtLeast = true
compares_numbers _ = false

-- arguments of a built-in: the terms that are evaluated may be compounds
pub data AreBuiltinArguments (s : Scope) : Builtin → List Plain → Type 0 where
  arguments : (b : Builtin) (ts : List Plain) → length ts ≡ arity_of b → All (IsArgument s) ts → AreBuiltinArguments s b ts
  evaluation : (value expression : Plain) → IsArgument s value → IsPlainTerm s expression →
      AreBuiltinArguments s builtin.Is (value ∷ expression ∷ [])
  comparison : (b : Builtin) (left right : Plain) → compares_numbers b ≡ true → IsPlainTerm s left → IsPlainTerm s right →
      AreBuiltinArguments s b (left ∷ right ∷ [])

pub data IsGoal (ps : List KernelPredicate) (s : Scope) : KernelGoal → Type 0 where
  unify : (v : ℕ) (t : Term) → IsPlainVariable s v → IsPlainTerm s (plain t) → IsGoal ps s (goal.Unify v t)
  call : (name : ProcName) (ts : List Plain) → IsCall ps s name ts → IsGoal ps s (goal.Call name ts)
  undefined : (name : Atom) (ts : List Plain) → All (IsArgument s) ts → IsGoal ps s (goal.Undefined name ts)
  built_in : (b : Builtin) (ts : List Plain) → AreBuiltinArguments s b ts → IsGoal ps s (goal.Builtin b ts)
  cut : IsGoal ps s goal.Cut
  cut_to : (v : ℕ) → s.barrier ≡ Some v → IsGoal ps s (goal.CutTo v)
  fail : IsGoal ps s goal.Fail
  -- the ball comes before the handler's arguments
  catch : (guarded : ProcName) (ts : List Plain) (handler : ProcName) (us : List Plain) → IsPredicateNamed ps guarded false →
      IsPredicateNamed ps handler false → length ts ≡ guarded.width → length us + 1 ≡ handler.width → All (IsArgument s) ts →
      All (IsArgument s) us → IsGoal ps s (goal.Catch guarded ts handler us)
  throw : (t : Term) → IsPlainTerm s (plain t) → IsGoal ps s (goal.Throw t)

abbrev pub is_catch : KernelGoal → Bool
is_catch (goal.Catch guarded ts handler us) = true
is_catch _ = false

-- a clause with a catch has no other goal, and its predicate no other clause and no barrier
abbrev pub IsAlone : KernelPredicate → KernelClause → KernelGoal → Type 0
IsAlone p c g = is_catch g ≡ true → (length c.goals ≡ 1) × (length p.clauses ≡ 1) × (p.barrier ≡ false)

pub record IsClause (ps : List KernelPredicate) (p : KernelPredicate) (c : KernelClause) : Type 0 where
  -- the arguments of the head are variables of the clause
  pub width : p.name.width ≤ c.variables
  pub goals : All (IsGoal ps (record { variables = c.variables; barrier = barrier_of p })) c.goals
  pub catches : All (IsAlone p c) c.goals

-- a name as code has it
pub record IsName (name : ProcName) : Type 0 where
  pub arity : name.arity ≤ 63
  pub width : name.width ≤ 64
  -- a source predicate has as many arguments as its arity
  pub source : name.part ≡ 0 → name.width ≡ name.arity

pub record IsPredicate (ps : List KernelPredicate) (p : KernelPredicate) : Type 0 where
  pub name : IsName p.name
  pub has_clause : 1 ≤ length p.clauses
  -- only an auxiliary predicate has a barrier, which is its last argument
  pub barrier : p.barrier ≡ true → (1 ≤ p.name.part) × (1 ≤ p.name.width)
  pub clauses : All (IsClause ps p) p.clauses

-- the predicates of a kernel program
pub record IsWellFormed (ps : List KernelPredicate) : Type 0 where
  pub names : AllPairs (λ p q. p.name ≢ q.name) ps
  pub predicates : All (IsPredicate ps) ps

-- an entry of a source predicate, with one mode for each argument
abbrev pub IsEntryOf : List KernelPredicate → Entry → Type 0
IsEntryOf ps e =
    (name : ProcName) × IsPredicateNamed ps name false × (name.name ≡ e.name) × (name.arity ≡ e.arity) × (name.part ≡ 0) × (length e.modes ≡ e.arity)

-- the entries of a kernel program
pub record AreEntries (ps : List KernelPredicate) (es : List Entry) : Type 0 where
  pub entries : All (IsEntryOf ps) es
  -- no two are of one predicate
  pub distinct : AllPairs (λ d e. (d.name ≡ e.name) → d.arity ≢ e.arity) es
