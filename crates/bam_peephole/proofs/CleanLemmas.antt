-- What other numbers for labels leave as it is.
use Rattle.std.proofs.Common.{◌≡◌, ℕ, ◌-◌, ◌<◌, ◌≤◌, Bool, true, false, ◌&&◌, not, cond, nat_eq, nat_lt, List, [], ◌∷◌, map, Option, Some, None, is_some, option_map, refl, ap, arith}
use Rattle.bam_code.specs.declared.line.Line.{Line}
use Rattle.bam_code.specs.declared.line.Line.TheVariants as line
use Rattle.bam_code.specs.declared.target.Target.{Target}
use Rattle.bam_code.specs.declared.target.Target.TheVariants as target
use Rattle.bam_peephole.specs.Clean.{is_clean, is_needed, jumps_to, label_behind, leads_to, moves_in_place}
use Rattle.bam_peephole.specs.LineLabels.{plain_label}
use Rattle.bam_peephole.specs.Relabeled.{from_the_end, relabeled, relabeled_target}

-- numbers from the end are distinct where the numbers are
pub from_the_end-eq : (count a b : ℕ) → nat_eq (from_the_end count a) (from_the_end count b) ≡ nat_eq a b
from_the_end-eq count a b = grind arith

plain_label-relabeled : (name : ℕ → ℕ) (l : Line) → plain_label (relabeled name l) ≡ option_map name (plain_label l)
plain_label-relabeled name l = grind arith

moves_in_place-relabeled : (name : ℕ → ℕ) (l : Line) → moves_in_place (relabeled name l) ≡ moves_in_place l
moves_in_place-relabeled name l = grind arith

leads_to-relabeled : (count : ℕ) (behind : Option ℕ) (t : Target) → leads_to (option_map (from_the_end count) behind) (relabeled_target (from_the_end count) t) ≡ leads_to behind t
leads_to-relabeled count None t = refl
leads_to-relabeled count (Some behind) (target.Label number) = from_the_end-eq count number behind
leads_to-relabeled count (Some behind) target.Fails = refl

jumps_to-relabeled : (count : ℕ) (behind : Option ℕ) (l : Line) → jumps_to (option_map (from_the_end count) behind) (relabeled (from_the_end count) l) ≡ jumps_to behind l
jumps_to-relabeled count behind (line.Jump t) = leads_to-relabeled count behind t
jumps_to-relabeled count behind l = grind arith

is_some-map : (name : ℕ → ℕ) (o : Option ℕ) → is_some (option_map name o) ≡ is_some o
is_some-map name None = refl
is_some-map name (Some x) = refl

label_behind-relabeled : (name : ℕ → ℕ) (ls : List Line) → label_behind (map (relabeled name) ls) ≡ option_map name (label_behind ls)
label_behind-relabeled name [] = refl
label_behind-relabeled name (l ∷ ls) = plain_label-relabeled name l

-- lines are as clean as they were
pub is_clean-relabeled : (count : ℕ) (ls : List Line) → is_clean (map (relabeled (from_the_end count)) ls) ≡ is_clean ls
is_clean-relabeled count [] = refl
is_clean-relabeled count (l ∷ ls) =
    rw (label_behind-relabeled (from_the_end count) ls, moves_in_place-relabeled (from_the_end count) l, jumps_to-relabeled count (label_behind ls) l, plain_label-relabeled (from_the_end count) l, is_some-map (from_the_end count) (plain_label l), is_some-map (from_the_end count) (label_behind ls), is_clean-relabeled count ls) refl
