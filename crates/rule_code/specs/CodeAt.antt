-- What stands in an image for the clauses of a predicate without arguments.
use Rattle.std.specs.Prelude.{◌≡◌, ℕ, ◌+◌, List, [], ◌∷◌, Some, slice_get}
use Rattle.aq_term.specs.declared.proc_name.ProcName.{ProcName}
use Rattle.bam_meaning.specs.Instruction.{Instruction, exec, call, return_, allocate, deallocate, try, retry, trust}

-- the goals of a clause's body
abbrev pub Body : Type 0
Body = List ProcName

-- in an image, with the place of each name, and with the names that have clauses
module _ (image : List Instruction) (places : ProcName → ℕ) (known : ProcName → Type 0) where
  -- an instruction stands at a place
  abbrev pub Has : ℕ → Instruction → Type 0
  Has place instruction = slice_get image place ≡ Some instruction

  -- the first goal, and then the others: calls within a frame, and the last goal without it
  abbrev pub CallsAt : ℕ → ProcName → Body → Type 0
  CallsAt place first [] = known first × Has place deallocate × Has (place + 1) (exec (places first))
  CallsAt place first (next ∷ body) = known first × Has place (call (places first)) × CallsAt (place + 1) next body

  -- a clause with this body
  abbrev pub ClauseAt : ℕ → Body → Type 0
  ClauseAt place [] = Has place return_
  ClauseAt place (only ∷ []) = known only × Has place (exec (places only))
  ClauseAt place (first ∷ next ∷ body) = Has place (allocate 1) × CallsAt (place + 1) first (next ∷ body)

  -- the clauses that a choice tries later: the first of them, and then the others
  abbrev pub LaterAt : ℕ → Body → List Body → Type 0
  LaterAt place body [] = Has place trust × ClauseAt (place + 1) body
  LaterAt place body (next ∷ bodies) =
      (later : ℕ) × Has place (retry later) × ClauseAt (place + 1) body × LaterAt later next bodies

  -- the clauses of a predicate: the first one, and then the others
  abbrev pub PredicateAt : ℕ → Body → List Body → Type 0
  PredicateAt place body [] = ClauseAt place body
  PredicateAt place body (next ∷ bodies) =
      (later : ℕ) × Has place (try 0 later) × ClauseAt (place + 1) body × LaterAt later next bodies
