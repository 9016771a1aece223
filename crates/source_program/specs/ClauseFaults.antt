-- Why a term is no clause of the language: the fault of its directive, its head or its body, or none.
use Rattle.std.specs.Prelude.{ℕ, ◌+◌, ◌==◌, Bool, true, ◌&&◌, ◌||◌, nat_lt, if◌then◌else◌, Option, Some, None, is_some}
use Rattle.term_meaning.specs.Plain.{Plain, Plains, variable, integer, atom, compound, none, more}
use Rattle.aq_base.specs.declared.refusal.FormKind.{FormKind}
use Rattle.aq_base.specs.declared.refusal.FormKind.TheVariants as form
use Rattle.aq_term.specs.declared.mode.Mode.{Mode}
use Rattle.aq_term.specs.declared.mode.Mode.TheVariants as mode
use Rattle.aq_term.specs.Reserved.{is_reserved}
use Rattle.dcg_rules.specs.Grammar as grammar
use Rattle.source_program.specs.Defined.{may_be_defined}

-- the first of two faults
abbrev pub first_of : Option FormKind → Option FormKind → Option FormKind
first_of (Some kind) other = Some kind
first_of None other = other

-- this fault, unless the test holds
abbrev pub unless : FormKind → Bool → Option FormKind
unless kind test = if test then None else Some kind

-- the numbers of names, as `aq_term` gives them
abbrev pub catch : ℕ
catch = 40

abbrev pub throw : ℕ
throw = 41

abbrev pub entry : ℕ
entry = 42

abbrev pub count : Plains → ℕ
count none = 0
count (more t ts) = count ts + 1

-- a head names a predicate that a program may define
abbrev pub head_fault : Plain → Option FormKind
head_fault (variable n) = Some form.Head
head_fault (integer z) = Some form.Head
head_fault (atom n) = unless form.Head (may_be_defined n 0)
head_fault (compound n ts) = unless form.Head (may_be_defined n (count ts))

-- a goal of this name with so many arguments
abbrev pub goal_fault : ℕ → ℕ → Option FormKind
goal_fault n arity = if is_reserved n arity then Some form.Body else None

abbrev mutual
  -- a variable, an integer and a reserved name are no goals; the parts of a control construct are goals
  pub body_fault : Plain → Option FormKind
  body_fault (variable n) = Some form.Body
  body_fault (integer z) = Some form.Body
  body_fault (atom n) = goal_fault n 0
  body_fault (compound n ts) = compound_fault n ts

  pub compound_fault : ℕ → Plains → Option FormKind
  compound_fault n none = goal_fault n 0
  compound_fault n (more a none) =
      if n == grammar.negation then body_fault a
      else if n == throw then None
      else goal_fault n 1
  compound_fault n (more a (more b none)) =
      if n == grammar.comma || n == grammar.semicolon || n == grammar.arrow
      then first_of (body_fault a) (body_fault b)
      else goal_fault n 2
  compound_fault n (more a (more b (more c none))) =
      if n == catch then first_of (body_fault a) (body_fault c) else goal_fault n 3
  compound_fault n (more a (more b (more c (more d ts)))) = goal_fault n (count ts + 4)

-- the mode that a term names
abbrev pub mode_of : Plain → Option Mode
mode_of (variable n) = None
mode_of (integer z) = None
mode_of (atom n) =
    if n == 43 then Some mode.Ground
    else if n == 50 then Some mode.Nonvar
    else if n == 44 then Some mode.Out
    else if n == 45 then Some mode.Any
    else None
mode_of (compound n ts) = None

-- each argument names a mode
abbrev pub are_modes : Plains → Bool
are_modes none = true
are_modes (more t ts) = is_some (mode_of t) && are_modes ts

-- what is declared to be an entry is an atom, or a compound of at most 255 modes
abbrev pub target_fault : Plain → Option FormKind
target_fault (variable n) = Some form.Directive
target_fault (integer z) = Some form.Directive
target_fault (atom n) = None
target_fault (compound n ts) = unless form.Directive (nat_lt (count ts) 256 && are_modes ts)

abbrev pub entry_fault : ℕ → Plains → Option FormKind
entry_fault n none = Some form.Directive
entry_fault n (more t none) = if n == entry then target_fault t else Some form.Directive
entry_fault n (more t (more u ts)) = Some form.Directive

-- the one directive is `entry(..)`
abbrev pub directive_fault : Plain → Option FormKind
directive_fault (variable n) = Some form.Directive
directive_fault (integer z) = Some form.Directive
directive_fault (atom n) = Some form.Directive
directive_fault (compound n ts) = entry_fault n ts

-- the head comes before the body
abbrev pub rule_fault : Plain → Plain → Option FormKind
rule_fault head body = first_of (head_fault head) (body_fault body)

-- a rule or a fact
abbrev pub clause_fault_of : ℕ → Plains → Option FormKind
clause_fault_of n none = head_fault (compound n none)
clause_fault_of n (more a none) = head_fault (compound n (more a none))
clause_fault_of n (more a (more b none)) =
    if n == grammar.rule then rule_fault a b else head_fault (compound n (more a (more b none)))
clause_fault_of n (more a (more b (more c ts))) = head_fault (compound n (more a (more b (more c ts))))

abbrev pub clause_fault : Plain → Option FormKind
clause_fault (variable n) = head_fault (variable n)
clause_fault (integer z) = head_fault (integer z)
clause_fault (atom n) = head_fault (atom n)
clause_fault (compound n ts) = clause_fault_of n ts

-- the rule that a grammar rule stands for, whose head and body were translated, where they could be
abbrev pub translated_fault : Option Plain → Option grammar.Made → Option FormKind
translated_fault None body = Some form.Head
translated_fault (Some head) None = Some form.Body
translated_fault (Some head) (Some body) = rule_fault head body.0

-- `head --> body` in a clause of so many variables
abbrev pub grammar_fault : ℕ → Plain → Plain → Option FormKind
grammar_fault variables head body =
    translated_fault
    (grammar.head_of head variables (variables + 1))
    (grammar.goal_of body variables (variables + 1) (variables + 1 + 1))

abbrev pub form_fault_of : ℕ → ℕ → Plains → Option FormKind
form_fault_of variables n none = clause_fault_of n none
form_fault_of variables n (more a none) =
    if n == grammar.rule then directive_fault a else clause_fault_of n (more a none)
form_fault_of variables n (more a (more b none)) =
    if n == grammar.derives then grammar_fault variables a b else clause_fault_of n (more a (more b none))
form_fault_of variables n (more a (more b (more c ts))) = clause_fault_of n (more a (more b (more c ts)))

-- the fault of a clause of so many variables: a directive, a grammar rule, a rule or a fact
abbrev pub form_fault : ℕ → Plain → Option FormKind
form_fault variables (variable n) = clause_fault (variable n)
form_fault variables (integer z) = clause_fault (integer z)
form_fault variables (atom n) = clause_fault (atom n)
form_fault variables (compound n ts) = form_fault_of variables n ts
