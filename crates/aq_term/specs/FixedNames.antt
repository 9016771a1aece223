-- The names that are in every table, in the order of their numbers.
use Rattle.std.specs.Prelude.{ℕ, List, [], ◌∷◌, codes}

abbrev pub fixed_names : List (List ℕ)
fixed_names =
    codes ":-" ∷ codes "-->" ∷ codes "?-" ∷ codes ";" ∷ codes "->" ∷ codes "," ∷ codes "\\+" ∷ codes "=" ∷
    codes "\\=" ∷ codes "==" ∷ codes "\\==" ∷ codes "@<" ∷ codes "@=<" ∷ codes "@>" ∷ codes "@>=" ∷
    codes "=.." ∷ codes "is" ∷ codes "=:=" ∷ codes "=\\=" ∷ codes "<" ∷ codes "=<" ∷ codes ">" ∷ codes ">=" ∷
    codes "+" ∷ codes "-" ∷ codes "/\\" ∷ codes "\\/" ∷ codes "*" ∷ codes "/" ∷ codes "//" ∷ codes "rem" ∷
    codes "mod" ∷ codes "<<" ∷ codes ">>" ∷ codes "**" ∷ codes "^" ∷ codes "\\" ∷ codes "!" ∷ codes "true" ∷
    codes "fail" ∷ codes "catch" ∷ codes "throw" ∷ codes "entry" ∷ codes "ground" ∷ codes "out" ∷
    codes "any" ∷ codes "[]" ∷ codes "." ∷ codes "{}" ∷ codes "var" ∷ codes "nonvar" ∷ codes "atom" ∷
    codes "integer" ∷ codes "number" ∷ codes "atomic" ∷ codes "compound" ∷ codes "compare" ∷
    codes "functor" ∷ codes "arg" ∷ codes "copy_term" ∷ codes "write" ∷ codes "writeq" ∷ codes "nl" ∷
    codes "put_char" ∷ codes "error" ∷ codes "instantiation_error" ∷ codes "type_error" ∷
    codes "domain_error" ∷ codes "representation_error" ∷ codes "evaluation_error" ∷
    codes "existence_error" ∷ codes "list" ∷ codes "character" ∷ codes "evaluable" ∷
    codes "not_less_than_zero" ∷ codes "non_empty_list" ∷ codes "max_arity" ∷ codes "int_overflow" ∷
    codes "zero_divisor" ∷ codes "undefined" ∷ codes "procedure" ∷ codes "call" ∷ codes "findall" ∷
    codes "bagof" ∷ codes "setof" ∷ codes "asserta" ∷ codes "assertz" ∷ codes "assert" ∷ codes "retract" ∷
    codes "abolish" ∷ codes "clause" ∷ codes "once" ∷ codes "repeat" ∷ codes "halt" ∷ codes "op" ∷
    codes "current_op" ∷ codes "float" ∷ codes "unify_with_occurs_check" ∷ codes "read" ∷ codes "read_term" ∷
    codes "get_char" ∷ codes "peek_char" ∷ codes "write_canonical" ∷ codes "write_term" ∷ codes "print" ∷
    codes "atom_length" ∷ codes "atom_concat" ∷ codes "sub_atom" ∷ codes "atom_chars" ∷ codes "atom_codes" ∷
    codes "char_code" ∷ codes "number_chars" ∷ codes "number_codes" ∷ codes "current_predicate" ∷
    codes "set_prolog_flag" ∷ codes "current_prolog_flag" ∷ codes "open" ∷ codes "close" ∷ []
