-- The options of a run: each sets a limit, or asks for the code to be shown, in any order and at most once.
use Rattle.std.specs.Prelude.{ℕ, Bool, true, false, if◌then◌else◌, Option, None, Some, List, [], ◌∷◌, codes, unwrap_or, option_and_then}
use Rattle.std.specs.Str.{bytes_eq}
use Rattle.aq_base.specs.declared.limits.Limits.{Limits}
use Rattle.aquarius_top.specs.declared.limit_name.LimitName.{LimitName}
use Rattle.aquarius_top.specs.declared.limit_name.LimitName.TheVariants as limit
use Rattle.aquarius_top.specs.declared.given_options.GivenOptions.{GivenOptions}
use Rattle.aquarius_top.specs.Number.{number_of, within}

-- the limit that an option's word sets
abbrev pub limit_named : List ℕ → Option LimitName
limit_named word =
    if bytes_eq word (codes "--steps") then Some limit.Steps
    else (if bytes_eq word (codes "--heap") then Some limit.Heap
    else (if bytes_eq word (codes "--env") then Some limit.Env
    else (if bytes_eq word (codes "--choice") then Some limit.Choice
    else (if bytes_eq word (codes "--trail") then Some limit.Trail
    else (if bytes_eq word (codes "--work") then Some limit.Work else None)))))

-- the greatest number that a limit may be set to; the least is 1
abbrev pub most_of : LimitName → ℕ
most_of limit.Steps = 1000000000
most_of limit.Heap = 67108864
most_of limit.Env = 16777216
most_of limit.Choice = 16777216
most_of limit.Trail = 16777216
most_of limit.Work = 16777216

-- no option is given
abbrev pub none_given : GivenOptions
none_given = record { steps = None; heap = None; env = None; choice = None; trail = None; work = None; show = false }

-- the number that a limit is set to
abbrev pub number_for : LimitName → GivenOptions → Option ℕ
number_for limit.Steps given = given.steps
number_for limit.Heap given = given.heap
number_for limit.Env given = given.env
number_for limit.Choice given = given.choice
number_for limit.Trail given = given.trail
number_for limit.Work given = given.work

abbrev pub with_number : LimitName → ℕ → GivenOptions → GivenOptions
with_number limit.Steps number given = record given { steps = Some number }
with_number limit.Heap number given = record given { heap = Some number }
with_number limit.Env number given = record given { env = Some number }
with_number limit.Choice number given = record given { choice = Some number }
with_number limit.Trail number given = record given { trail = Some number }
with_number limit.Work number given = record given { work = Some number }

-- a limit that was not set before is set to a number, where there is one
abbrev pub set_once : LimitName → Option ℕ → Option ℕ → GivenOptions → Option GivenOptions
set_once name (Some before) number given = None
set_once name None None given = None
set_once name None (Some number) given = Some (with_number name number given)

-- an option with its number
abbrev pub with_limit : Option LimitName → List ℕ → GivenOptions → Option GivenOptions
with_limit None number given = None
with_limit (Some name) number given = set_once name (number_for name given) (within (most_of name) (number_of number)) given

abbrev pub with_option : List ℕ → List ℕ → GivenOptions → Option GivenOptions
with_option word number given = with_limit (limit_named word) number given

-- the word that asks for the code to be shown
abbrev pub is_show : List ℕ → Bool
is_show word = bytes_eq word (codes "--show")

-- the code is to be shown, where that was not asked before
abbrev pub with_show : GivenOptions → Option GivenOptions
with_show given = if given.show then None else Some (record given { show = true })

-- what options come to, where some are given already, or none where the words are no such options
abbrev pub options_from : List (List ℕ) → GivenOptions → Option GivenOptions
options_from [] given = Some given
options_from (word ∷ []) given = if is_show word then with_show given else None
options_from (word ∷ number ∷ words) given =
    if is_show word then option_and_then (options_from (number ∷ words)) (with_show given)
    else option_and_then (options_from words) (with_option word number given)

-- the limits of a run, the defaults standing for those that are not set
abbrev pub limits_of : GivenOptions → Limits
limits_of given =
    record {
      steps = unwrap_or given.steps 100000000;
      heap = unwrap_or given.heap 4194304;
      env = unwrap_or given.env 4194304;
      choice = unwrap_or given.choice 4194304;
      trail = unwrap_or given.trail 4194304;
      work = unwrap_or given.work 4194304;
    }
