-- Acts of lines with other labels, and of lines side by side.
use Rattle.std.proofs.Common.{◌≡◌, ℕ, Bool, true, false, cond, List, [], ◌∷◌, ◌++◌, map, Option, refl, ap, sym, ◌∙◌, append_assoc, arith}
use Rattle.bam_code.specs.declared.line.Line.{Line}
use Rattle.bam_peephole.specs.Acts.{acts, is_act}
use Rattle.bam_peephole.specs.Clean.{is_needed}
use Rattle.bam_peephole.specs.Relabeled.{relabeled}

is_act-relabeled : (name : ℕ → ℕ) (l : Line) → is_act (relabeled name l) ≡ is_act l
is_act-relabeled name l = grind arith

relabeled-relabeled : (name : ℕ → ℕ) (l : Line) → relabeled (λ number. 0) (relabeled name l) ≡ relabeled (λ number. 0) l
relabeled-relabeled name l = grind arith

-- another first line, with other labels
pub acts-relabeled : (name : ℕ → ℕ) (l : Line) (ls : List Line) → acts (relabeled name l ∷ ls) ≡ acts (l ∷ ls)
acts-relabeled name l ls = rw (is_act-relabeled name l, relabeled-relabeled name l) refl

-- lines with other labels
pub acts-map : (name : ℕ → ℕ) (ls : List Line) → acts (map (relabeled name) ls) ≡ acts ls
acts-map name [] = refl
acts-map name (l ∷ ls) = rw (acts-relabeled name l (map (relabeled name) ls), acts-map name ls) refl

not_act : (behind : Option ℕ) (l : Line) → is_needed behind l ≡ false → is_act l ≡ false
not_act behind l is = grind arith

-- a line that does nothing, with other labels
pub acts-left_out : (behind : Option ℕ) (name : ℕ → ℕ) (l : Line) (ls : List Line) → is_needed behind (relabeled name l) ≡ false → acts (l ∷ ls) ≡ acts ls
acts-left_out behind name l ls is = rw (← is_act-relabeled name l, not_act behind (relabeled name l) is) refl

acts-cons : (l : Line) (ls ks : List Line) → acts ls ≡ acts ks → acts (l ∷ ls) ≡ acts (l ∷ ks)
acts-cons l ls ks e = rw e refl

-- other lines behind
pub acts-append : (ls ks js : List Line) → acts ks ≡ acts js → acts (ls ++ ks) ≡ acts (ls ++ js)
acts-append [] ks js e = e
acts-append (l ∷ ls) ks js e = acts-cons l (ls ++ ks) (ls ++ js) (acts-append ls ks js e)

-- the last line goes over to the lines behind
pub acts-over : (ls : List Line) (l : Line) (ks js : List Line) → acts js ≡ acts (l ∷ ks) → acts (ls ++ js) ≡ acts ((ls ++ l ∷ []) ++ ks)
acts-over ls l ks js e = acts-append ls js (l ∷ ks) e ∙ ap acts (sym (append_assoc ls (l ∷ []) ks))
