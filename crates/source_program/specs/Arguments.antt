-- How many arguments the head of a clause and its calls have.
use Rattle.std.specs.Prelude.{ℕ, ◌+◌, ◌==◌, ◌||◌, max, Option, Some, None, if◌then◌else◌}
use Rattle.term_meaning.specs.Plain.{Plain, Plains, variable, integer, atom, compound, none, more}
use Rattle.dcg_rules.specs.Grammar as grammar
use Rattle.source_program.specs.ClauseFaults.{count, catch, throw}
use Rattle.source_program.specs.Defined.{is_builtin}

-- a call of so many arguments; a built-in is no call
abbrev pub called : ℕ → ℕ → ℕ
called n arity = if is_builtin n arity then 0 else arity

abbrev mutual
  -- the most arguments of a call in a body
  pub most_called : Plain → ℕ
  most_called (variable n) = 0
  most_called (integer z) = 0
  most_called (atom n) = 0
  most_called (compound n ts) = most_called_of n ts

  pub most_called_of : ℕ → Plains → ℕ
  most_called_of n none = 0
  most_called_of n (more a none) =
      if n == grammar.negation then most_called a
      else if n == throw then 0
      else called n 1
  most_called_of n (more a (more b none)) =
      if n == grammar.comma || n == grammar.semicolon || n == grammar.arrow
      then max (most_called a) (most_called b)
      else called n 2
  most_called_of n (more a (more b (more c none))) =
      if n == catch then max (most_called a) (most_called c) else called n 3
  most_called_of n (more a (more b (more c (more d ts)))) = called n (count ts + 4)

-- how many arguments a term has
abbrev pub arity : Plain → ℕ
arity (variable n) = 0
arity (integer z) = 0
arity (atom n) = 0
arity (compound n ts) = count ts

-- of the head and the calls of a rule
abbrev pub rule_arguments : Plain → Plain → ℕ
rule_arguments head body = max (arity head) (most_called body)

-- of a rule or a fact
abbrev pub clause_arguments_of : ℕ → Plains → ℕ
clause_arguments_of n none = 0
clause_arguments_of n (more a none) = 1
clause_arguments_of n (more a (more b none)) = if n == grammar.rule then rule_arguments a b else 2
clause_arguments_of n (more a (more b (more c ts))) = count ts + 3

abbrev pub clause_arguments : Plain → ℕ
clause_arguments (variable n) = 0
clause_arguments (integer z) = 0
clause_arguments (atom n) = 0
clause_arguments (compound n ts) = clause_arguments_of n ts

-- of the rule that a grammar rule stands for, whose head and body were translated
abbrev pub translated_arguments : Option Plain → Option grammar.Made → ℕ
translated_arguments None body = 0
translated_arguments (Some head) None = 0
translated_arguments (Some head) (Some body) = rule_arguments head body.0

abbrev pub grammar_arguments : ℕ → Plain → Plain → ℕ
grammar_arguments variables head body =
    translated_arguments
    (grammar.head_of head variables (variables + 1))
    (grammar.goal_of body variables (variables + 1) (variables + 1 + 1))

abbrev pub text_arguments_of : ℕ → ℕ → Plains → ℕ
text_arguments_of variables n none = clause_arguments_of n none
text_arguments_of variables n (more a none) = clause_arguments_of n (more a none)
text_arguments_of variables n (more a (more b none)) =
    if n == grammar.derives then grammar_arguments variables a b else clause_arguments_of n (more a (more b none))
text_arguments_of variables n (more a (more b (more c ts))) = clause_arguments_of n (more a (more b (more c ts)))

-- the most arguments of the head and the calls of a clause of so many variables
abbrev pub text_arguments : ℕ → Plain → ℕ
text_arguments variables (variable n) = 0
text_arguments variables (integer z) = 0
text_arguments variables (atom n) = 0
text_arguments variables (compound n ts) = text_arguments_of variables n ts
