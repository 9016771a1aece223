-- One option more of a command.
use Rattle.std.proofs.Common.{◌≡◌, ℕ, Bool, true, false, List, [], ◌∷◌, Option, None, Some, map, ◌∙◌, ap}
use Rattle.std.specs.Prelude.{if◌then◌else◌, option_and_then}
use Rattle.aquarius_top.specs.declared.given_options.GivenOptions.{GivenOptions}
use Rattle.aquarius_top.specs.Options.{is_show, with_option, with_show, options_from}

pub option_taken : {X : Type 0} (f : X → List ℕ) (words after behind : List X) (option number : X) (given next : GivenOptions)
    → words ≡ option ∷ after → after ≡ number ∷ behind → is_show (f option) ≡ false → with_option (f option) (f number) given ≡ Some next
    → options_from (map f words) given ≡ options_from (map f behind) next
option_taken f words after behind option number given next words_are after_are other takes =
    let shown : Option GivenOptions = option_and_then (options_from (f number ∷ map f behind)) (with_show given) in
    let set : Option GivenOptions = option_and_then (options_from (map f behind)) (with_option (f option) (f number) given) in
    ap (λ all. options_from (map f all) given) (words_are ∙ ap (λ all. option ∷ all) after_are)
    ∙ ap (λ (b : Bool). if b then shown else set) other
    ∙ ap (option_and_then (options_from (map f behind))) takes

shown_first : {X : Type 0} (f : X → List ℕ) (after : List X) (option : X) (given next : GivenOptions)
    → is_show (f option) ≡ true → with_show given ≡ Some next → options_from (map f (option ∷ after)) given ≡ options_from (map f after) next
shown_first f [] option given next shows takes =
    ap (λ (b : Bool). if b then with_show given else None) shows ∙ takes
shown_first f (number ∷ behind) option given next shows takes =
    let shown : Option GivenOptions = option_and_then (options_from (f number ∷ map f behind)) (with_show given) in
    let set : Option GivenOptions = option_and_then (options_from (map f behind)) (with_option (f option) (f number) given) in
    ap (λ (b : Bool). if b then shown else set) shows
    ∙ ap (option_and_then (options_from (f number ∷ map f behind))) takes

pub show_taken : {X : Type 0} (f : X → List ℕ) (words after : List X) (option : X) (given next : GivenOptions)
    → words ≡ option ∷ after → is_show (f option) ≡ true → with_show given ≡ Some next
    → options_from (map f words) given ≡ options_from (map f after) next
show_taken f words after option given next words_are shows takes =
    ap (λ all. options_from (map f all) given) words_are ∙ shown_first f after option given next shows takes
