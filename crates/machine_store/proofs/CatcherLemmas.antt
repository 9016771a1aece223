-- Where there is no catcher, the newest choice is none.
use Rattle.std.proofs.Common.{◌≡◌, ◌≢◌, ℕ, ◌-◌, List, [], ◌∷◌, length, Some, sym, ap, ◌∙◌}
use Rattle.std.specs.List.{slice_get}
use Rattle.tag_word.specs.declared.tag.Tag.TheVariants as tag
use Rattle.tag_word.specs.Tagged.{Tagged}
use Rattle.bam_meaning.specs.Frame.{Frame}
use Rattle.bam_meaning.specs.Choice.{Choice}
use Rattle.machine_store.specs.Areas.{Areas, link_word}
use Rattle.machine_store.specs.Stands.{StoreStands, IsStore}
use Rattle.machine_store.proofs.DerefsLemmas.{same_some}
use Rattle.machine_store.proofs.StandsLemmas.{newest_catchers}

no_catcher_from : (areas : Areas) (word : Tagged) (frames : List Frame) (choices : List Choice) → StoreStands areas frames choices → areas.count ≢ 0 → slice_get areas.choice (length areas.choice - 2) ≡ Some word → word ≡ link_word 0 0
no_catcher_from areas word frames [] stands some found = absurd (some stands.count_is)
no_catcher_from areas word frames (choice ∷ choices) stands some found =
    same_some _ _ (sym found ∙ newest_catchers areas.choice choice choices stands.choice_is)

pub no_catcher_newest : (areas : Areas) (word : Tagged) → IsStore areas → areas.count ≢ 0 → slice_get areas.choice (length areas.choice - 2) ≡ Some word → word.tag ≡ tag.Frm
no_catcher_newest areas word is some found =
    ap (λ (w : Tagged). w.tag) (no_catcher_from areas word is.frames is.choices is.stands some found)
