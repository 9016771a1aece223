-- The code of a predicate stands at its place in the linked code.
use Rattle.std.proofs.Common.{◌≡◌, ℕ, suc, ◌+◌, ◌<◌, ◌≤◌, Bool, true, false, cond, List, [], ◌∷◌, ◌++◌, length, map, Some, refl, sym, subst, ap, ◌∙◌, arith, eqb, length-append, append_assoc}
use Rattle.std.proofs.lemmas.Bool.Decides.{nat_tests}
use Rattle.std.proofs.lemmas.List.Sums.{sum_by-cons}
use Rattle.std.specs.List.{slice_get}
use Rattle.aq_term.specs.declared.proc_name.ProcName.{ProcName}
use Rattle.bam_code.specs.declared.line.Line.{Line}
use Rattle.bam_code.specs.declared.line.Line.TheVariants as line
use Rattle.bam_code.specs.declared.target.Target.{Target}
use Rattle.bam_code.specs.declared.target.Target.TheVariants as target
use Rattle.bam_meaning.specs.Instruction.{Instruction}
use Rattle.bam_meaning.specs.Linked.{size_of, label_place, target_place, linked_line, linked_lines, linked_procs, proc_place, is_instruction, same_name}
use Rattle.rule_code.specs.CodeAt.{Body, CallsAt, ClauseAt, LaterAt, PredicateAt}
use Rattle.rule_code.specs.CodeOf.{Predicate, calls_lines, clause_lines, later_lines, predicate_lines, proc_of, predicate_of, AllGoals, AllBodies, AllPredicates}

-- the instructions stand in the image from a place on
abbrev pub Segment : List Instruction → ℕ → List Instruction → Type 0
Segment image at [] = Unit {0}
Segment image at (instruction ∷ instructions) = (slice_get image at ≡ Some instruction) × Segment image (at + 1) instructions

-- how many lines the code of a clause has, all of them instructions
abbrev calls_size : Body → ℕ
calls_size [] = 2
calls_size (next ∷ body) = calls_size body + 1

abbrev clause_size : Body → ℕ
clause_size [] = 1
clause_size (only ∷ []) = 1
clause_size (first ∷ next ∷ body) = calls_size (next ∷ body) + 1

module _ (image : List Instruction) (places : ProcName → ℕ) (known : ProcName → Type 0) where
  -- the parts of a segment
  segment_front : (at : ℕ) (xs ys : List Instruction) → Segment image at (xs ++ ys) → Segment image at xs
  segment_front at [] ys segment = tt
  segment_front at (x ∷ xs) ys segment = (segment.0, segment_front (at + 1) xs ys segment.1)

  segment_rest : (at : ℕ) (xs ys : List Instruction) → Segment image at (xs ++ ys) → Segment image (at + length xs) ys
  segment_rest at [] ys segment = let e : at + 0 ≡ at = omega arith in rw e segment
  segment_rest at (x ∷ xs) ys segment =
      let e : at + suc (length xs) ≡ at + 1 + length xs = omega arith in
      rw e (segment_rest (at + 1) xs ys segment.1)

  -- calls
  calls_there : (targets : Target → ℕ) (at : ℕ) (first : ProcName) (body : Body) → known first → AllGoals known body → Segment image at (linked_lines places targets (calls_lines first body)) → CallsAt image places known at first body
  calls_there targets at first [] is_known all segment = (is_known, segment.0, segment.1.0)
  calls_there targets at first (next ∷ body) is_known all segment =
      (is_known, segment.0, calls_there targets (at + 1) next body all.0 all.1 segment.1)

  clause_there : (targets : Target → ℕ) (at : ℕ) (body : Body) → AllGoals known body → Segment image at (linked_lines places targets (clause_lines body)) → ClauseAt image places known at body
  clause_there targets at [] all segment = segment.0
  clause_there targets at (only ∷ []) all segment = (all.0, segment.0)
  clause_there targets at (first ∷ next ∷ body) all segment =
      (segment.0, calls_there targets (at + 1) first (next ∷ body) all.0 all.1 segment.1)

  linked-append : (targets : Target → ℕ) (xs ys : List Line) → linked_lines places targets (xs ++ ys) ≡ linked_lines places targets xs ++ linked_lines places targets ys
  linked-append targets [] ys = refl
  linked-append targets (x ∷ xs) ys =
      ap (λ (l : List Instruction). linked_line places targets x ++ l) (linked-append targets xs ys) ∙ sym (append_assoc (linked_line places targets x) (linked_lines places targets xs) (linked_lines places targets ys))

  length-calls : (targets : Target → ℕ) (first : ProcName) (body : Body) → length (linked_lines places targets (calls_lines first body)) ≡ calls_size body
  length-calls targets first [] = refl
  length-calls targets first (next ∷ body) = let rest = length-calls targets next body in omega arith

  length-clause : (targets : Target → ℕ) (body : Body) → length (linked_lines places targets (clause_lines body)) ≡ clause_size body
  length-clause targets [] = refl
  length-clause targets (only ∷ []) = refl
  length-clause targets (first ∷ next ∷ body) =
      let rest = length-calls targets first (next ∷ body) in omega arith

-- a label that stands behind the code of a clause
label_behind_calls : (first : ProcName) (body : Body) (more : List Line) (number at : ℕ) → label_place (calls_lines first body ++ more) number at ≡ label_place more number (at + calls_size body)
label_behind_calls first [] more number at = ap (label_place more number) (omega arith)
label_behind_calls first (next ∷ body) more number at =
    label_behind_calls next body more number (at + 1) ∙ ap (label_place more number) (omega arith)

label_behind_clause : (body : Body) (more : List Line) (number at : ℕ) → label_place (clause_lines body ++ more) number at ≡ label_place more number (at + clause_size body)
label_behind_clause [] more number at = refl
label_behind_clause (only ∷ []) more number at = refl
label_behind_clause (first ∷ next ∷ body) more number at =
    label_behind_calls first (next ∷ body) more number (at + 1) ∙ ap (label_place more number) (omega arith)

eqb-same : (n : ℕ) → eqb n n ≡ true
eqb-same n = grind (arith, nat_tests)

eqb-less : (m n : ℕ) → m < n → eqb m n ≡ false
eqb-less m n less = grind (arith, nat_tests)

-- where the alternatives of later clauses stand
later_here : (number : ℕ) (body : Body) (bodies : List Body) (at : ℕ) → label_place (later_lines number body bodies) number at ≡ at
later_here number body [] at =
    ap (λ (b : Bool). cond b at (label_place (line.Trust ∷ clause_lines body) number at)) (eqb-same number)
later_here number body (next ∷ bodies) at =
    ap (λ (b : Bool). cond b at (label_place (line.Retry (target.Label (number + 1)) ∷ (clause_lines body ++ later_lines (number + 1) next bodies)) number at)) (eqb-same number)

later_further : (number sought : ℕ) (body next : Body) (bodies : List Body) (at : ℕ) → number < sought → label_place (later_lines number body (next ∷ bodies)) sought at ≡ label_place (later_lines (number + 1) next bodies) sought (at + 1 + clause_size body)
later_further number sought body next bodies at further =
    ap (λ (b : Bool). cond b at (label_place (line.Retry (target.Label (number + 1)) ∷ (clause_lines body ++ later_lines (number + 1) next bodies)) sought at)) (eqb-less number sought further) ∙ label_behind_clause body (later_lines (number + 1) next bodies) sought (at + 1)

module _ (image : List Instruction) (places : ProcName → ℕ) (known : ProcName → Type 0) where
  later_there : (targets : Target → ℕ) (number at : ℕ) (body : Body) (bodies : List Body) → ((sought : ℕ) → number ≤ sought → targets (target.Label sought) ≡ label_place (later_lines number body bodies) sought at) → AllGoals known body → AllBodies known bodies → Segment image at (linked_lines places targets (later_lines number body bodies)) → LaterAt image places known at body bodies
  later_there targets number at body [] labels all others segment =
      (segment.0, clause_there image places known targets (at + 1) body all segment.1)
  later_there targets number at body (next ∷ bodies) labels all others segment =
      let later : ℕ = targets (target.Label (number + 1)) in
      let here : later ≡ at + 1 + clause_size body = labels (number + 1) (omega arith) ∙ later_further number (number + 1) body next bodies at (omega arith) ∙ later_here (number + 1) next bodies (at + 1 + clause_size body) in
      let parts : Segment image (at + 1) (linked_lines places targets (clause_lines body) ++ linked_lines places targets (later_lines (number + 1) next bodies)) = subst (Segment image (at + 1)) (linked-append image places known targets (clause_lines body) (later_lines (number + 1) next bodies)) segment.1 in
      let rest : Segment image (at + 1 + length (linked_lines places targets (clause_lines body))) (linked_lines places targets (later_lines (number + 1) next bodies)) = segment_rest image places known (at + 1) _ _ parts in
      let long = length-clause image places known targets body in
      let start : at + 1 + length (linked_lines places targets (clause_lines body)) ≡ later = omega arith in
      let moved : Segment image later (linked_lines places targets (later_lines (number + 1) next bodies)) = subst (λ (n : ℕ). Segment image n (linked_lines places targets (later_lines (number + 1) next bodies))) start rest in
      let further : (sought : ℕ) → number + 1 ≤ sought → targets (target.Label sought) ≡ label_place (later_lines (number + 1) next bodies) sought later = λ sought from.
      labels sought (omega arith) ∙ later_further number sought body next bodies at (omega arith) ∙ ap (label_place (later_lines (number + 1) next bodies) sought) (sym here) in
      (later, segment.0, clause_there image places known targets (at + 1) body all (segment_front image places known (at + 1) _ _ parts), later_there targets (number + 1) later next bodies further others.0 others.1 moved)

  -- the code of a predicate stands at its place
  pub predicate_there : (at : ℕ) (body : Body) (bodies : List Body) → AllGoals known body → AllBodies known bodies → Segment image at (linked_lines places (target_place (predicate_lines body bodies) at) (predicate_lines body bodies)) → PredicateAt image places known at body bodies
  predicate_there at body [] all others segment =
      clause_there image places known (target_place (predicate_lines body []) at) at body all segment
  predicate_there at body (next ∷ bodies) all others segment =
      let targets : Target → ℕ = target_place (predicate_lines body (next ∷ bodies)) at in
      let later : ℕ = targets (target.Label 0) in
      let labels : (sought : ℕ) → targets (target.Label sought) ≡ label_place (later_lines 0 next bodies) sought (at + 1 + clause_size body) = λ sought. label_behind_clause body (later_lines 0 next bodies) sought (at + 1) in
      let here : later ≡ at + 1 + clause_size body = labels 0 ∙ later_here 0 next bodies (at + 1 + clause_size body) in
      let parts : Segment image (at + 1) (linked_lines places targets (clause_lines body) ++ linked_lines places targets (later_lines 0 next bodies)) = subst (Segment image (at + 1)) (linked-append image places known targets (clause_lines body) (later_lines 0 next bodies)) segment.1 in
      let rest : Segment image (at + 1 + length (linked_lines places targets (clause_lines body))) (linked_lines places targets (later_lines 0 next bodies)) = segment_rest image places known (at + 1) _ _ parts in
      let long = length-clause image places known targets body in
      let start : at + 1 + length (linked_lines places targets (clause_lines body)) ≡ later = omega arith in
      let moved : Segment image later (linked_lines places targets (later_lines 0 next bodies)) = subst (λ (n : ℕ). Segment image n (linked_lines places targets (later_lines 0 next bodies))) start rest in
      (later, segment.0, clause_there image places known targets (at + 1) body all (segment_front image places known (at + 1) _ _ parts), later_there targets 0 later next bodies (λ sought from. labels sought ∙ ap (label_place (later_lines 0 next bodies) sought) (sym here)) others.0 others.1 moved)

-- as many instructions as are counted
line_size : (names : ProcName → ℕ) (targets : Target → ℕ) (first : Line) → length (linked_line names targets first) ≡ cond (is_instruction first) 1 0
line_size names targets (line.Label number frame items) = refl
line_size names targets (line.Alt number frame items) = refl
line_size names targets (line.Ball number frame items) = refl
line_size names targets (line.Move to from) = refl
line_size names targets (line.Deref register from) = refl
line_size names targets (line.Load register from cell) = refl
line_size names targets (line.Structure register functor) = refl
line_size names targets (line.ListCell register) = refl
line_size names targets (line.Push from) = refl
line_size names targets (line.PushNew register) = refl
line_size names targets (line.Fresh register) = refl
line_size names targets (line.Bind register term) = refl
line_size names targets (line.Unify register term) = refl
line_size names targets (line.Jump target) = refl
line_size names targets (line.Switch register reference atom integer list structure) = refl
line_size names targets (line.Match register constant other) = refl
line_size names targets (line.Functor register functor other) = refl
line_size names targets line.Fail = refl
line_size names targets (line.Call name) = refl
line_size names targets (line.Exec name) = refl
line_size names targets line.Return = refl
line_size names targets (line.Allocate slots) = refl
line_size names targets line.Deallocate = refl
line_size names targets (line.Try registers alternative) = refl
line_size names targets (line.Retry alternative) = refl
line_size names targets line.Trust = refl
line_size names targets (line.Mark register) = refl
line_size names targets (line.Cut from) = refl
line_size names targets (line.Arith operation register left right) = refl
line_size names targets (line.Less comparison left right) = refl
line_size names targets (line.Eval register expression) = refl
line_size names targets (line.Same sameness left right) = refl
line_size names targets (line.Builtin builtin) = refl
line_size names targets (line.Raise from) = refl
line_size names targets (line.Hole register holds) = refl
line_size names targets (line.Fill register term) = refl
line_size names targets (line.Catch registers ball) = refl
line_size names targets line.Uncatch = refl

lines_size : (names : ProcName → ℕ) (targets : Target → ℕ) (lines : List Line) → length (linked_lines names targets lines) ≡ size_of lines
lines_size names targets [] = refl
lines_size names targets (first ∷ lines) =
    let one = line_size names targets first in
    let rest = lines_size names targets lines in
    let both = length-append (linked_line names targets first) (linked_lines names targets lines) in
    let counted : size_of (first ∷ lines) ≡ cond (is_instruction first) 1 0 + size_of lines = sum_by-cons (λ (l : Line). cond (is_instruction l) 1 0) first lines in
    omega arith

module _ (image : List Instruction) (names : ProcName → ℕ) (known : ProcName → Type 0) where
  -- the first predicate is it, or a later one
  met_there : (same : Bool) (first : Predicate) (predicates : List Predicate) (at : ℕ) (name : ProcName) (predicate : Predicate) → cond same (Some first) (predicate_of predicates name) ≡ Some predicate → PredicateAt image names known at first.first first.others → (predicate_of predicates name ≡ Some predicate → PredicateAt image names known (proc_place (map proc_of predicates) name (at + size_of (predicate_lines first.first first.others))) predicate.first predicate.others) → PredicateAt image names known (cond same at (proc_place (map proc_of predicates) name (at + size_of (predicate_lines first.first first.others)))) predicate.first predicate.others
  met_there true first predicates at name predicate found here later =
      let same : first ≡ predicate = cc in
      subst (λ (p : Predicate). PredicateAt image names known at p.first p.others) same here
  met_there false first predicates at name predicate found here later = later found

  -- the code of the first predicate of a name stands at its place
  pub found_there : (predicates : List Predicate) (at : ℕ) (name : ProcName) (predicate : Predicate) → predicate_of predicates name ≡ Some predicate → AllPredicates known predicates → Segment image at (linked_procs names (map proc_of predicates) at) → PredicateAt image names known (proc_place (map proc_of predicates) name at) predicate.first predicate.others
  found_there [] at name predicate found all segment = absurd (let bad : ⊥ = cc in bad)
  found_there (first ∷ predicates) at name predicate found all segment =
      let lines : List Line = predicate_lines first.first first.others in
      let own : List Instruction = linked_lines names (target_place lines at) lines in
      let here = predicate_there image names known at first.first first.others all.0 all.1 (segment_front image names known at own _ segment) in
      let long = lines_size names (target_place lines at) lines in
      let start : at + length own ≡ at + size_of lines = omega arith in
      let rest : Segment image (at + size_of lines) (linked_procs names (map proc_of predicates) (at + size_of lines)) = subst (λ (n : ℕ). Segment image n (linked_procs names (map proc_of predicates) (at + size_of lines))) start (segment_rest image names known at own _ segment) in
      met_there (same_name first.name name) first predicates at name predicate found here (λ later. found_there predicates (at + size_of lines) name predicate later all.2 rest)

slice_get-front : (front : List Instruction) (x : Instruction) (xs : List Instruction) → slice_get (front ++ x ∷ xs) (length front) ≡ Some x
slice_get-front [] x xs = refl
slice_get-front (y ∷ front) x xs = slice_get-front front x xs

-- an image stands in itself
pub segment_self : (front whole : List Instruction) → Segment (front ++ whole) (length front) whole
segment_self front [] = tt
segment_self front (x ∷ xs) =
    let here : slice_get (front ++ x ∷ xs) (length front) ≡ Some x = slice_get-front front x xs in
    let longer : front ++ x ∷ xs ≡ (front ++ x ∷ []) ++ xs = sym (append_assoc front (x ∷ []) xs) in
    let long : length (front ++ x ∷ []) ≡ length front + 1 = length-append front (x ∷ []) in
    let rest : Segment ((front ++ x ∷ []) ++ xs) (length (front ++ x ∷ [])) xs = segment_self (front ++ x ∷ []) xs in
    (here, subst (λ (l : List Instruction). Segment l (length front + 1) xs) (sym longer) (subst (λ (n : ℕ). Segment ((front ++ x ∷ []) ++ xs) n xs) long rest))
