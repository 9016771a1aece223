-- The image that is made of a program is one of the program's code.
use Rattle.std.proofs.Common.{◌≡◌, ℕ, List, ap, subst, ◌∙◌}
use Rattle.aq_term.specs.FixedNames.{fixed_names}
use Rattle.source_meaning.specs.Program.{Name, Program}
use Rattle.bam_code.specs.declared.code.Code.{Code}
use Rattle.bam_meaning.specs.Linked.{linked, entry_places}
use Rattle.bam_link.specs.Shown.{Linked}
use Rattle.rule_code.specs.Compiled.{IsCompiled}
use Rattle.rule_code.specs.Passes.{table_with}
use Rattle.aquarius_top.specs.Ran.{names_of, IsImageOf}

own_names : (start texts : List Name) (program : Program) → start ≡ fixed_names → texts ≡ table_with start program → texts ≡ names_of program
unfolding names_of
own_names start texts program begins is = is ∙ ap (λ (names : List Name). table_with names program) begins

pub image_of_code : (start texts : List Name) (program : Program) (code : Code) (image : Linked) → start ≡ fixed_names
    → texts ≡ table_with start program → IsCompiled texts program code
    → image ≡ record { instructions = linked code; entries = entry_places code } → IsImageOf program image
image_of_code start texts program code image begins is compiled image_is = record {
  code = code;
  compiled = subst (λ (names : List Name). IsCompiled names program code) (own_names start texts program begins is) compiled;
  image_is = image_is;
}
