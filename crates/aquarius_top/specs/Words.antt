-- The words of a command.
use Rattle.std.specs.Prelude.{ℕ, Bool, true, false, Option, None, Some, List, [], ◌∷◌, codes, if◌then◌else◌, option_map, option_and_then, unwrap_or}
use Rattle.std.specs.Str.{bytes_eq}
use Rattle.aq_base.specs.declared.limits.Limits.{Limits}
use Rattle.aquarius_top.specs.declared.command.Command.{Command}
use Rattle.aquarius_top.specs.declared.command.Command.TheVariants.{Run, Exec, Bam, Analyse, Verify, Join, Work}
use Rattle.aquarius_top.specs.declared.given_options.GivenOptions.{GivenOptions}
use Rattle.aquarius_top.specs.Number.{number_of, at_most, within}
use Rattle.aquarius_top.specs.Options.{none_given, options_from, limits_of}

-- a run that is asked for: its query and its limits
pub record Asked : Type 0 where
  pub query : List ℕ
  pub limits : Limits

abbrev pub asked_with : List ℕ → GivenOptions → Asked
asked_with query given = record { query = query; limits = limits_of given }

-- what words ask for
pub data Asking : Type 0 where
  -- a run of a program
  to_run : (asked : Asked) → Asking
  -- the code of a program, and then its run
  to_show : (asked : Asked) → Asking
  -- a run of a text of code
  to_exec : (asked : Asked) → Asking
  -- the code of a program
  to_bam : Asking
  -- the facts of a program
  to_analyse : Asking
  -- whether a text of code is accepted
  to_verify : Asking
  -- the parts of a text of code, joined
  to_join : Asking
  -- a run of the program that is made from a seed and a size
  to_work : (seed size : ℕ) → Asking

abbrev pub run_with : List ℕ → GivenOptions → Asking
run_with query given = if given.show then to_show (asked_with query given) else to_run (asked_with query given)

-- code that is given is not shown again
abbrev pub exec_with : List ℕ → GivenOptions → Option Asking
exec_with query given = if given.show then None else Some (to_exec (asked_with query given))

abbrev pub work_with : Option ℕ → Option ℕ → Option Asking
work_with None size = None
work_with (Some seed) None = None
work_with (Some seed) (Some size) = Some (to_work seed size)

-- the greatest seed, and the greatest size
abbrev pub MOST_SEED : ℕ
MOST_SEED = 2147483647

abbrev pub MOST_SIZE : ℕ
MOST_SIZE = 1000

-- a seed, and a size that is all that is behind it
abbrev pub work_of : List ℕ → List (List ℕ) → Option Asking
work_of seed [] = None
work_of seed (size ∷ []) = work_with (at_most MOST_SEED (number_of seed)) (within MOST_SIZE (number_of size))
work_of seed (size ∷ more ∷ words) = None

-- a word that is a command alone
abbrev pub alone : List ℕ → Option Asking
alone name =
    if bytes_eq name (codes "bam") then Some to_bam
    else (if bytes_eq name (codes "analyse") then Some to_analyse
    else (if bytes_eq name (codes "verify") then Some to_verify
    else (if bytes_eq name (codes "join") then Some to_join else None)))

-- one of the words `run` and `exec`, a query, and options; `work`, a seed and a size; one of the words `bam`, `analyse`, `verify` and `join`
-- alone; every other list of words is no command
abbrev pub command_of : List (List ℕ) → Option Asking
command_of [] = None
command_of (name ∷ []) = alone name
command_of (name ∷ query ∷ options) =
    if bytes_eq name (codes "run") then option_map (run_with query) (options_from options none_given)
    else (if bytes_eq name (codes "exec") then option_and_then (exec_with query) (options_from options none_given)
    else (if bytes_eq name (codes "work") then work_of query options else None))

abbrev pub asking_of : Command → Asking
asking_of (Run query show limits) =
    if show then to_show (record { query = query; limits = limits }) else to_run (record { query = query; limits = limits })
asking_of (Exec query limits) = to_exec (record { query = query; limits = limits })
asking_of Bam = to_bam
asking_of Analyse = to_analyse
asking_of Verify = to_verify
asking_of Join = to_join
asking_of (Work seed size) = to_work seed size

-- whether the source is read for what is asked
abbrev pub asks_for_source : Asking → Bool
asks_for_source (to_run asked) = true
asks_for_source (to_show asked) = true
asks_for_source (to_exec asked) = true
asks_for_source to_bam = true
asks_for_source to_analyse = true
asks_for_source to_verify = true
asks_for_source to_join = true
asks_for_source (to_work seed size) = false

-- whether words are a command that reads the source
abbrev pub reads_source : List (List ℕ) → Bool
reads_source words = unwrap_or (option_map asks_for_source (command_of words)) false
