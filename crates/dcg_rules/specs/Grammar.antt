-- The clause that a grammar rule stands for. A nonterminal gets two more arguments: the list before what it derives, and
-- the list behind it.
use Rattle.std.specs.Prelude.{◌≡◌, ℕ, ◌+◌, ◌==◌, ◌&&◌, ◌||◌, nat_lt, if◌then◌else◌, Option, Some, None, option_and_then}
use Rattle.term_meaning.specs.Plain.{Plain, Plains, variable, integer, atom, compound, none, more}

-- the numbers of the names, as `aq_term` gives them
abbrev pub rule : ℕ
rule = 0

abbrev pub derives : ℕ
derives = 1

abbrev pub semicolon : ℕ
semicolon = 3

abbrev pub arrow : ℕ
arrow = 4

abbrev pub comma : ℕ
comma = 5

abbrev pub negation : ℕ
negation = 6

abbrev pub equals : ℕ
equals = 7

abbrev pub cut : ℕ
cut = 37

abbrev pub nil : ℕ
nil = 46

abbrev pub list : ℕ
list = 47

abbrev pub curly : ℕ
curly = 48

abbrev pub one : Plain → Plains
one t = more t none

abbrev pub two : Plain → Plain → Plains
two t u = more t (more u none)

-- the list before is the list behind
abbrev pub same_list : ℕ → Plain → Plain
same_list from behind = compound equals (two (variable from) behind)

-- the goal, and nothing is taken off the list
abbrev pub keeping : Plain → ℕ → ℕ → Plain
keeping goal from to = compound comma (two goal (same_list from (variable to)))

-- two more arguments at the end
abbrev pub with_lists : Plains → ℕ → ℕ → Plains
with_lists none from to = two (variable from) (variable to)
with_lists (more t ts) from to = more t (with_lists ts from to)

abbrev pub count : Plains → ℕ
count none = 0
count (more t ts) = count ts + 1

-- a nonterminal as a goal
abbrev pub nonterminal : ℕ → Plains → ℕ → ℕ → Option Plain
nonterminal name args from to =
    if nat_lt 253 (count args) then None else Some (compound name (with_lists args from to))

abbrev mutual
  -- the elements of a list, with a variable in place of its end; none for another term
  pub with_end : ℕ → Plain → Option Plain
  with_end to (variable n) = None
  with_end to (integer z) = None
  with_end to (atom n) = if n == nil then Some (variable to) else None
  with_end to (compound name args) = with_ends to name args

  pub with_ends : ℕ → ℕ → Plains → Option Plain
  with_ends to name none = None
  with_ends to name (more head none) = None
  with_ends to name (more head (more tail none)) =
      if name == list
      then option_and_then (λ t. Some (compound list (two head t))) (with_end to tail)
      else None
  with_ends to name (more head (more tail (more other others))) = None

-- a goal, and the first number that no variable has
abbrev pub Made : Type 0
Made = Plain × ℕ

abbrev pub made : ℕ → Option Plain → Option Made
made next goal = option_and_then (λ g. Some (g, next)) goal

-- both sides, joined by a name
abbrev pub joined : ℕ → Option Made → (ℕ → Option Made) → Option Made
joined name left right =
    option_and_then (λ l. option_and_then (λ r. Some (compound name (two l.0 r.0), r.1)) (right l.1)) left

-- where a goal finds nothing
abbrev pub negated : ℕ → ℕ → Option Made → Option Made
negated from to goal = option_and_then (λ g. Some (keeping (compound negation (one g.0)) from to, g.1)) goal

abbrev mutual
  -- the goal of a body between two lists; new variables are numbered from `next` on
  pub goal_of : Plain → ℕ → ℕ → ℕ → Option Made
  goal_of (variable n) from to next = None
  goal_of (integer z) from to next = None
  goal_of (atom name) from to next =
      if name == cut
      then Some (keeping (atom cut) from to, next)
      else (if name == nil
      then Some (same_list from (variable to), next)
      else Some (compound name (two (variable from) (variable to)), next))
  goal_of (compound name args) from to next = goal_of_compound name args from to next

  pub goal_of_compound : ℕ → Plains → ℕ → ℕ → ℕ → Option Made
  goal_of_compound name none from to next = made next (nonterminal name none from to)
  goal_of_compound name (more a none) from to next =
      if name == negation
      then negated from to (goal_of a from next (next + 1))
      else (if name == curly
      then Some (keeping a from to, next)
      else made next (nonterminal name (one a) from to))
  goal_of_compound name (more a (more b none)) from to next =
      if name == comma || name == arrow
      then joined name (goal_of a from next (next + 1)) (λ n. goal_of b next to n)
      else (if name == semicolon
      then joined semicolon (goal_of a from to next) (λ n. goal_of b from to n)
      else (if name == list
      then made next (option_and_then (λ t. Some (same_list from t)) (with_ends to name (two a b)))
      else made next (nonterminal name (two a b) from to)))
  goal_of_compound name (more a (more b (more c rest))) from to next =
      made next (nonterminal name (more a (more b (more c rest))) from to)

-- the head with the two lists
abbrev pub head_of : Plain → ℕ → ℕ → Option Plain
head_of (variable n) from to = None
head_of (integer z) from to = None
head_of (atom name) from to = Some (compound name (two (variable from) (variable to)))
head_of (compound name args) from to =
    if name == comma && count args == 2 then None else nonterminal name args from to

-- the clause of `head --> body`, whose variables are below n, and the first number that no variable of it has
abbrev pub clause_of : Plain → Plain → ℕ → Option Made
clause_of head body n =
    option_and_then
    (λ h. option_and_then (λ b. Some (compound rule (two h b.0), b.1)) (goal_of body n (n + 1) (n + 1 + 1)))
    (head_of head n (n + 1))

-- the term is `head --> body`
abbrev pub IsRule : Plain → Plain → Plain → Type 0
IsRule head body term = term ≡ compound derives (two head body)
