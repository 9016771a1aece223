use Rattle.std.specs.Prelude.{ℕ, if◌then◌else◌, ◌==◌}
use Rattle.tag_word.specs.declared.tag.Tag.{Tag}
use Rattle.tag_word.specs.declared.tag.Tag.TheVariants as tag

-- the number by which a word names its tag
abbrev pub number_of : Tag → ℕ
number_of tag.Ref = 1
number_of tag.Atm = 2
number_of tag.Int = 3
number_of tag.Lst = 4
number_of tag.Str = 5
number_of tag.Fun = 6
number_of tag.Bar = 7
number_of tag.Cod = 8
number_of tag.Frm = 9
number_of tag.Hol = 10

-- the tag of a number from 1 to 10
abbrev pub tag_of : ℕ → Tag
tag_of n =
    if n == 1 then tag.Ref else (if n == 2 then tag.Atm else (if n == 3 then tag.Int else (if n == 4 then tag.Lst else (if n == 5 then tag.Str else (if n == 6 then tag.Fun else (if n == 7 then tag.Bar else (if n == 8 then tag.Cod else (if n == 9 then tag.Frm else tag.Hol))))))))
