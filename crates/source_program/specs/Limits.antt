-- The limits of clauses. What is counted of a clause is its arguments, exactly, and what the clauses of the predicates count
-- that its control constructs become.
use Rattle.std.specs.Prelude.{◌≡◌, ℕ, ◌+◌, nat_lt, if◌then◌else◌, List, [], ◌∷◌, ◌++◌, Option, Some, None, map}
use Rattle.aq_base.specs.declared.refusal.LimitKind.{LimitKind}
use Rattle.aq_base.specs.declared.refusal.LimitKind.TheVariants as limit
use Rattle.aq_base.specs.declared.refusal.Refusal.{Refusal}
use Rattle.aq_base.specs.declared.refusal.Refusal.TheVariants as refusal
use Rattle.source_program.specs.TextKeys.{Defined}
use Rattle.source_program.specs.declared.outline_counts.OutlineCounts.{OutlineCounts}

pub record Counts : Type 0 where
  -- the most arguments of the head and of a call
  pub arguments : ℕ
  -- the counts of the kernel clauses
  pub kernel : OutlineCounts

-- the first limit that the kernel clauses pass, where they make the running total this one
abbrev pub kernel_limit : OutlineCounts → ℕ → Option LimitKind
kernel_limit c total =
    if nat_lt 62 c.branch then Some limit.Branch
    else if nat_lt 400 c.variables then Some limit.Variables
    else if nat_lt 256 c.slots then Some limit.Slots
    else if nat_lt 512 c.nodes then Some limit.Nodes
    else if nat_lt 16777216 total then Some limit.Total
    else None

-- the first limit that a clause passes, the total before it given
abbrev pub limit_of : Counts → ℕ → Option LimitKind
limit_of c before = if nat_lt 63 c.arguments then Some limit.Arity else kernel_limit c.kernel (before + c.kernel.total)

-- clauses of which none passes a limit, and their total
pub data KeepLimits : List Counts → ℕ → Type 0 where
  none : KeepLimits [] 0
  more : (before : List Counts) (total : ℕ) (c : Counts) → KeepLimits before total → limit_of c total ≡ None → KeepLimits (before ++ c ∷ []) (total + c.kernel.total)

abbrev pub arguments_of : List Counts → List ℕ
arguments_of cs = map (λ c. c.arguments) cs

-- no clause passes a limit
pub record KeptLimits (rows : List Defined) : Type 0 where
  pub counts : List Counts
  pub total : ℕ
  pub arguments : arguments_of counts ≡ map (λ r. r.arguments) rows
  pub keep : KeepLimits counts total

-- the first clause that passes a limit, and the first limit that it passes
pub record PassesLimit (rows : List Defined) (clause : ℕ) (kind : LimitKind) : Type 0 where
  pub before : List Defined
  pub row : Defined
  pub after : List Defined
  pub split : rows ≡ before ++ row ∷ after
  pub number : clause ≡ row.clause
  pub counts : List Counts
  pub total : ℕ
  pub arguments : arguments_of counts ≡ map (λ r. r.arguments) before
  pub keep : KeepLimits counts total
  pub last : Counts
  pub last_arguments : last.arguments ≡ row.arguments
  pub passed : limit_of last total ≡ Some kind

pub data IsLimit (rows : List Defined) : Refusal → Type 0 where
  passed : (clause : ℕ) (kind : LimitKind) → PassesLimit rows clause kind → IsLimit rows (refusal.Limit clause kind)
