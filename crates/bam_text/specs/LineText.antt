-- How a line of a procedure is spelled, without its new line.
use Rattle.std.specs.Prelude.{ℕ, List, ◌∷◌, ◌++◌, Option, codes}
use Rattle.std.specs.Fmt.{decimal}
use Rattle.aq_term.specs.declared.builtin.Builtin.{Builtin}
use Rattle.bam_code.specs.declared.target.Target.{Target}
use Rattle.bam_code.specs.declared.switch_target.SwitchTarget.{SwitchTarget}
use Rattle.bam_code.specs.declared.item.Item.{Item}
use Rattle.bam_code.specs.declared.line.Line.{Line}
use Rattle.bam_code.specs.declared.line.Line.TheVariants as line
use Rattle.bam_text.specs.Words.{arith_op_word, comparison_word, sameness_word, hole_type_word}
use Rattle.bam_text.specs.Operands.{Texts, register_text, place_text, source_text, constant_text, functor_text, builtin_text, name_text, target_text, switch_target_text, frame_text, items_text}

-- a space, and then a field
abbrev pub field : List ℕ → List ℕ
field text = 32 ∷ text

-- a label, an alternative or the label of a ball
abbrev pub label_text : Texts → List ℕ → ℕ → Option ℕ → List Item → List ℕ
label_text texts word number frame items =
    word ++ field (decimal number) ++ field (frame_text frame) ++ items_text texts items

abbrev pub builtin_line_text : Texts → Builtin → List ℕ
builtin_line_text texts builtin = codes "builtin" ++ field (builtin_text texts builtin)

-- where a switch goes
abbrev pub switch_targets_text : SwitchTarget → Target → Target → Target → Target → List ℕ
switch_targets_text reference atom integer list structure =
    field (codes "var=") ++ switch_target_text reference ++ field (codes "atm=") ++ target_text atom
    ++ field (codes "int=") ++ target_text integer ++ field (codes "lst=") ++ target_text list
    ++ field (codes "str=") ++ target_text structure

abbrev pub line_text : Texts → Line → List ℕ
line_text texts (line.Label number frame items) = label_text texts (codes "label") number frame items
line_text texts (line.Alt number frame items) = label_text texts (codes "alt") number frame items
line_text texts (line.Ball number frame items) = label_text texts (codes "ball") number frame items
line_text texts (line.Move to from) = codes "move" ++ field (place_text to) ++ field (source_text texts from)
line_text texts (line.Deref register from) = codes "deref" ++ field (register_text register) ++ field (source_text texts from)
line_text texts (line.Load register from cell) =
    codes "load" ++ field (register_text register) ++ field (source_text texts from) ++ field (decimal cell)
line_text texts (line.Structure register functor) = codes "str" ++ field (register_text register) ++ field (functor_text texts functor)
line_text texts (line.ListCell register) = codes "lst" ++ field (register_text register)
line_text texts (line.Push from) = codes "push" ++ field (source_text texts from)
line_text texts (line.PushNew register) = codes "push_new" ++ field (register_text register)
line_text texts (line.Fresh register) = codes "fresh" ++ field (register_text register)
line_text texts (line.Bind register term) = codes "bind" ++ field (register_text register) ++ field (source_text texts term)
line_text texts (line.Unify register term) = codes "unify" ++ field (register_text register) ++ field (source_text texts term)
line_text texts (line.Jump target) = codes "jump" ++ field (target_text target)
line_text texts (line.Switch register reference atom integer list structure) =
    codes "switch" ++ field (register_text register) ++ switch_targets_text reference atom integer list structure
line_text texts (line.Match register constant other) =
    codes "match" ++ field (register_text register) ++ field (constant_text texts constant) ++ field (target_text other)
line_text texts (line.Functor register functor other) =
    codes "functor" ++ field (register_text register) ++ field (functor_text texts functor) ++ field (target_text other)
line_text texts line.Fail = codes "fail"
line_text texts (line.Call name) = codes "call" ++ field (name_text texts name)
line_text texts (line.Exec name) = codes "exec" ++ field (name_text texts name)
line_text texts line.Return = codes "return"
line_text texts (line.Allocate slots) = codes "allocate" ++ field (decimal slots)
line_text texts line.Deallocate = codes "deallocate"
line_text texts (line.Try registers alternative) = codes "try" ++ field (decimal registers) ++ field (target_text alternative)
line_text texts (line.Retry alternative) = codes "retry" ++ field (target_text alternative)
line_text texts line.Trust = codes "trust"
line_text texts (line.Mark register) = codes "mark" ++ field (register_text register)
line_text texts (line.Cut from) = codes "cut" ++ field (source_text texts from)
line_text texts (line.Arith operation register left right) =
    codes "arith" ++ field (arith_op_word operation) ++ field (register_text register) ++ field (source_text texts left)
    ++ field (source_text texts right)
line_text texts (line.Less comparison left right) =
    codes "less" ++ field (comparison_word comparison) ++ field (source_text texts left) ++ field (source_text texts right)
line_text texts (line.Eval register expression) = codes "eval" ++ field (register_text register) ++ field (source_text texts expression)
line_text texts (line.Same sameness left right) =
    codes "same" ++ field (sameness_word sameness) ++ field (source_text texts left) ++ field (source_text texts right)
line_text texts (line.Builtin builtin) = builtin_line_text texts builtin
line_text texts (line.Raise from) = codes "raise" ++ field (source_text texts from)
line_text texts (line.Hole register holds) = codes "hole" ++ field (register_text register) ++ field (hole_type_word holds)
line_text texts (line.Fill register term) = codes "fill" ++ field (register_text register) ++ field (source_text texts term)
line_text texts (line.Catch registers ball) = codes "catch" ++ field (decimal registers) ++ field (target_text ball)
line_text texts line.Uncatch = codes "uncatch"
