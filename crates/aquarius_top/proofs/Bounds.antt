-- The limits of a command are within their ranges, as far as a machine asks.
use Rattle.std.proofs.Common.{◌≡◌, ℕ, ◌≤◌, Bool, true, false, List, [], ◌∷◌, Option, None, Some, refl, ap, subst, sym, arith}
use Rattle.std.specs.Prelude.{◌&&◌, nat_le, if◌then◌else◌, codes, IfSome, unwrap_or, option_map, option_and_then}
use Rattle.std.specs.Str.{bytes_eq}
use Rattle.std.proofs.lemmas.Bool.Decides.{nat_tests}
use Rattle.aquarius_top.specs.declared.given_options.GivenOptions.{GivenOptions}
use Rattle.aquarius_top.specs.declared.limit_name.LimitName.{LimitName}
use Rattle.aquarius_top.specs.declared.limit_name.LimitName.TheVariants as limit
use Rattle.aquarius_top.specs.Number.{number_of, at_most, within}
use Rattle.aquarius_top.specs.Options.{limit_named, most_of, none_given, number_for, with_number, set_once, with_limit, with_option, is_show, with_show, options_from, limits_of}
use Rattle.aquarius_top.specs.Words.{Asked, Asking, to_run, to_show, to_exec, to_bam, to_analyse, to_verify, to_join, to_work, asked_with, run_with, exec_with, work_with, work_of, MOST_SEED, MOST_SIZE, command_of}
use Rattle.aq_base.specs.declared.limits.Limits.{Limits}
use Rattle.bam_link.specs.Shown.{Linked}
use Rattle.aquarius_top.specs.Plan.{RunsFor, CompiledFor, ExecFor}

abbrev MOST : ℕ
MOST = 16777216

abbrev MOST_HEAP : ℕ
MOST_HEAP = 67108864

abbrev Bounded : GivenOptions → Type 0
Bounded given =
    IfSome given.env (λ n. n ≤ MOST) × IfSome given.choice (λ n. n ≤ MOST) × IfSome given.heap (λ n. n ≤ MOST_HEAP) × IfSome given.trail (λ n. n ≤ MOST) × IfSome given.work (λ n. n ≤ MOST)

same_some : {A : Type 0} (a b : A) → Some a ≡ Some b → a ≡ b
same_some a b e = ap (λ o. unwrap_or o a) e

kept : (a b : Bool) (m n most : ℕ) → (b ≡ true → m ≤ most) → (if a && b then Some m else None) ≡ Some n → n ≤ most
kept true true m n most le e = let P : ℕ → Type 0 = λ k. k ≤ most in subst P (same_some m n e) (le refl)
kept true false m n most le e = absurd (let no : ⊥ = cc in no)
kept false b m n most le e = absurd (let no : ⊥ = cc in no)

within_most : (most : ℕ) (o : Option ℕ) (n : ℕ) → within most o ≡ Some n → n ≤ most
within_most most None n e = absurd (let no : ⊥ = cc in no)
within_most most (Some m) n e =
    kept (nat_le 1 m) (nat_le m most) m n most (λ (is : nat_le m most ≡ true). grind (arith, nat_tests, is)) e

with_bounded : (name : LimitName) (n : ℕ) (given : GivenOptions) → n ≤ most_of name → Bounded given → Bounded (with_number name n given)
with_bounded limit.Steps n given le bounded = bounded
with_bounded limit.Heap n given le bounded = (bounded.0, bounded.1, le, bounded.3, bounded.4)
with_bounded limit.Env n given le bounded = (le, bounded.1, bounded.2, bounded.3, bounded.4)
with_bounded limit.Choice n given le bounded = (bounded.0, le, bounded.2, bounded.3, bounded.4)
with_bounded limit.Trail n given le bounded = (bounded.0, bounded.1, bounded.2, le, bounded.4)
with_bounded limit.Work n given le bounded = (bounded.0, bounded.1, bounded.2, bounded.3, le)

set_bounded : (name : LimitName) (before number : Option ℕ) (given next : GivenOptions)
    → ((n : ℕ) → number ≡ Some n → n ≤ most_of name) → Bounded given → set_once name before number given ≡ Some next → Bounded next
set_bounded name (Some before) number given next le bounded e = absurd (let no : ⊥ = cc in no)
set_bounded name None None given next le bounded e = absurd (let no : ⊥ = cc in no)
set_bounded name None (Some n) given next le bounded e =
    subst Bounded (same_some (with_number name n given) next e) (with_bounded name n given (le n refl) bounded)

limit_bounded : (name : Option LimitName) (number : List ℕ) (given next : GivenOptions) → Bounded given
    → with_limit name number given ≡ Some next → Bounded next
limit_bounded None number given next bounded e = absurd (let no : ⊥ = cc in no)
limit_bounded (Some name) number given next bounded e =
    set_bounded name (number_for name given) (within (most_of name) (number_of number)) given next
    (λ n is. within_most (most_of name) (number_of number) n is) bounded e

after_bounded : (rest : GivenOptions → Option GivenOptions) (o : Option GivenOptions) (next : GivenOptions)
    → ((mid : GivenOptions) → o ≡ Some mid → Bounded mid) → ((mid : GivenOptions) → Bounded mid → rest mid ≡ Some next → Bounded next)
    → option_and_then rest o ≡ Some next → Bounded next
after_bounded rest None next first more e = absurd (let no : ⊥ = cc in no)
after_bounded rest (Some mid) next first more e = more mid (first mid refl) e

show_bounded : (shown : Bool) (given next : GivenOptions) → Bounded given
    → (if shown then None else Some (record given { show = true })) ≡ Some next → Bounded next
show_bounded true given next bounded e = absurd (let no : ⊥ = cc in no)
show_bounded false given next bounded e = subst Bounded (same_some (record given { show = true }) next e) bounded

one_bounded : (shows : Bool) (given next : GivenOptions) → Bounded given → (if shows then with_show given else None) ≡ Some next → Bounded next
one_bounded true given next bounded e = show_bounded given.show given next bounded e
one_bounded false given next bounded e = absurd (let no : ⊥ = cc in no)

-- one of two ways to go on
either_bounded : (shows : Bool) (one other : Option GivenOptions) (next : GivenOptions)
    → (one ≡ Some next → Bounded next) → (other ≡ Some next → Bounded next) → (if shows then one else other) ≡ Some next → Bounded next
either_bounded true one other next first second e = first e
either_bounded false one other next first second e = second e

options_bounded : (words : List (List ℕ)) (given next : GivenOptions) → Bounded given → options_from words given ≡ Some next
    → Bounded next
options_bounded [] given next bounded e = subst Bounded (same_some given next e) bounded
options_bounded (word ∷ []) given next bounded e = one_bounded (is_show word) given next bounded e
options_bounded (word ∷ number ∷ words) given next bounded e =
    either_bounded (is_show word)
    (option_and_then (options_from (number ∷ words)) (with_show given)) (option_and_then (options_from words) (with_option word number given)) next
    (λ shown. after_bounded (options_from (number ∷ words)) (with_show given) next
    (λ mid is. show_bounded given.show given mid bounded is)
    (λ mid within_it is. options_bounded (number ∷ words) mid next within_it is) shown)
    (λ taken. after_bounded (options_from words) (with_option word number given) next
    (λ mid is. limit_bounded (limit_named word) number given mid bounded is)
    (λ mid within_it is. options_bounded words mid next within_it is) taken) e

limit_within : (most : ℕ) (o : Option ℕ) → 4194304 ≤ most → IfSome o (λ n. n ≤ most) → unwrap_or o 4194304 ≤ most
limit_within most None low none = low
limit_within most (Some n) low le = le

abbrev pub LimitsBounded : Limits → Type 0
LimitsBounded limits =
    (limits.env ≤ 16777216) × (limits.choice ≤ 16777216) × (limits.heap ≤ 67108864) × (limits.trail ≤ 16777216) × (limits.work ≤ 16777216)

abbrev AreBounded : Asking → Type 0
AreBounded (to_run asked) = LimitsBounded asked.limits
AreBounded (to_show asked) = LimitsBounded asked.limits
AreBounded (to_exec asked) = LimitsBounded asked.limits
AreBounded to_bam = Unit {0}
AreBounded to_analyse = Unit {0}
AreBounded to_verify = Unit {0}
AreBounded to_join = Unit {0}
AreBounded (to_work seed size) = Unit {0}

limits_bounded : (given : GivenOptions) → Bounded given → LimitsBounded (limits_of given)
limits_bounded given bounded =
    let low : 4194304 ≤ MOST = omega arith in
    let low_heap : 4194304 ≤ MOST_HEAP = omega arith in
    (limit_within MOST given.env low bounded.0, limit_within MOST given.choice low bounded.1, limit_within MOST_HEAP given.heap low_heap bounded.2, limit_within MOST given.trail low bounded.3, limit_within MOST given.work low bounded.4)

-- a run of a program, by whether its code is shown
run_asking_bounded : (shown : Bool) (asked : Asked) → LimitsBounded asked.limits → AreBounded (if shown then to_show asked else to_run asked)
run_asking_bounded true asked bounded = bounded
run_asking_bounded false asked bounded = bounded

exec_asking_bounded : (shown : Bool) (asked : Asked) (asking : Asking) → LimitsBounded asked.limits
    → (if shown then None else Some (to_exec asked)) ≡ Some asking → AreBounded asking
exec_asking_bounded true asked asking bounded e = absurd (let no : ⊥ = cc in no)
exec_asking_bounded false asked asking bounded e = subst AreBounded (same_some (to_exec asked) asking e) bounded

numbers_bounded : (seed size : Option ℕ) (asking : Asking) → work_with seed size ≡ Some asking → AreBounded asking
numbers_bounded None size asking e = absurd (let no : ⊥ = cc in no)
numbers_bounded (Some seed) None asking e = absurd (let no : ⊥ = cc in no)
numbers_bounded (Some seed) (Some size) asking e = subst AreBounded (same_some (to_work seed size) asking e) tt

work_bounded : (seed : List ℕ) (sizes : List (List ℕ)) (asking : Asking) → work_of seed sizes ≡ Some asking → AreBounded asking
work_bounded seed [] asking e = absurd (let no : ⊥ = cc in no)
work_bounded seed (size ∷ []) asking e =
    numbers_bounded (at_most MOST_SEED (number_of seed)) (within MOST_SIZE (number_of size)) asking e
work_bounded seed (size ∷ more ∷ words) asking e = absurd (let no : ⊥ = cc in no)

given_bounded : (is_run is_exec is_work : Bool) (o : Option GivenOptions) (query : List ℕ) (work : Option Asking) (asking : Asking)
    → ((given : GivenOptions) → o ≡ Some given → Bounded given) → (work ≡ Some asking → AreBounded asking)
    → (if is_run then option_map (run_with query) o else (if is_exec then option_and_then (exec_with query) o else (if is_work then work else None))) ≡ Some asking
    → AreBounded asking
given_bounded false false false o query work asking all works e = absurd (let no : ⊥ = cc in no)
given_bounded false false true o query work asking all works e = works e
given_bounded false true is_work None query work asking all works e = absurd (let no : ⊥ = cc in no)
given_bounded false true is_work (Some given) query work asking all works e =
    exec_asking_bounded given.show (asked_with query given) asking (limits_bounded given (all given refl)) e
given_bounded true is_exec is_work None query work asking all works e = absurd (let no : ⊥ = cc in no)
given_bounded true is_exec is_work (Some given) query work asking all works e =
    subst AreBounded (same_some (run_with query given) asking e)
    (run_asking_bounded given.show (asked_with query given) (limits_bounded given (all given refl)))

alone_bounded : (bam analyse verify join : Bool) (asking : Asking)
    → (if bam then Some to_bam else (if analyse then Some to_analyse else (if verify then Some to_verify else (if join then Some to_join else None)))) ≡ Some asking
    → AreBounded asking
alone_bounded true analyse verify join asking e = subst AreBounded (same_some to_bam asking e) tt
alone_bounded false true verify join asking e = subst AreBounded (same_some to_analyse asking e) tt
alone_bounded false false true join asking e = subst AreBounded (same_some to_verify asking e) tt
alone_bounded false false false true asking e = subst AreBounded (same_some to_join asking e) tt
alone_bounded false false false false asking e = absurd (let no : ⊥ = cc in no)

asking_bounded : (words : List (List ℕ)) (asking : Asking) → command_of words ≡ Some asking → AreBounded asking
asking_bounded [] asking e = absurd (let no : ⊥ = cc in no)
asking_bounded (name ∷ []) asking e =
    alone_bounded (bytes_eq name (codes "bam")) (bytes_eq name (codes "analyse")) (bytes_eq name (codes "verify"))
    (bytes_eq name (codes "join")) asking e
asking_bounded (name ∷ query ∷ options) asking e =
    given_bounded (bytes_eq name (codes "run")) (bytes_eq name (codes "exec")) (bytes_eq name (codes "work"))
    (options_from options none_given) query (work_of query options) asking
    (λ given is. options_bounded options none_given given (tt, tt, tt, tt, tt) is)
    (λ is. work_bounded query options asking is) e

-- the limits of a run that words ask for
pub run_bounded : (words : List (List ℕ)) (text : List ℕ) (asking : Asking) (image : Linked) (limits : Limits)
    → command_of words ≡ Some asking → RunsFor asking text image limits → LimitsBounded limits
run_bounded words text (to_run asked) image limits e is = subst LimitsBounded (sym is.0) (asking_bounded words (to_run asked) e)
run_bounded words text (to_show asked) image limits e is = absurd is
run_bounded words text (to_exec asked) image limits e is = absurd is
run_bounded words text to_bam image limits e is = absurd is
run_bounded words text to_analyse image limits e is = absurd is
run_bounded words text to_verify image limits e is = absurd is
run_bounded words text to_join image limits e is = absurd is
run_bounded words text (to_work seed size) image limits e is = absurd is

-- the limits of a run of compiled code that words ask for
pub compiled_bounded : (words : List (List ℕ)) (text : List ℕ) (asking : Asking) (limits : Limits)
    → command_of words ≡ Some asking → CompiledFor asking text limits → LimitsBounded limits
compiled_bounded words text (to_run asked) limits e is = subst LimitsBounded (sym is.0) (asking_bounded words (to_run asked) e)
compiled_bounded words text (to_show asked) limits e is = subst LimitsBounded (sym is.0) (asking_bounded words (to_show asked) e)
compiled_bounded words text (to_exec asked) limits e is = absurd is
compiled_bounded words text to_bam limits e is = absurd is
compiled_bounded words text to_analyse limits e is = absurd is
compiled_bounded words text to_verify limits e is = absurd is
compiled_bounded words text to_join limits e is = absurd is
compiled_bounded words text (to_work seed size) limits e is =
    subst LimitsBounded (sym is) (limits_bounded none_given (tt, tt, tt, tt, tt))

-- the limits of a run of a text of code that words ask for
pub exec_bounded : (words : List (List ℕ)) (asking : Asking) (limits : Limits)
    → command_of words ≡ Some asking → ExecFor asking limits → LimitsBounded limits
exec_bounded words (to_run asked) limits e is = absurd is
exec_bounded words (to_show asked) limits e is = absurd is
exec_bounded words (to_exec asked) limits e is = subst LimitsBounded (sym is) (asking_bounded words (to_exec asked) e)
exec_bounded words to_bam limits e is = absurd is
exec_bounded words to_analyse limits e is = absurd is
exec_bounded words to_verify limits e is = absurd is
exec_bounded words to_join limits e is = absurd is
exec_bounded words (to_work seed size) limits e is = absurd is
