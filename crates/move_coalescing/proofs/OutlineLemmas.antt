-- Lists of lines of which moves into registers go.
use Rattle.std.proofs.Common.{◌≡◌, ◌+◌, ◌<◌, ◌≤◌, Bool, true, false, cond, List, [], ◌∷◌, ◌++◌, length, map, reverse, append-nil, append_assoc, refl, subst, sym, ap, ◌∙◌, arith}
use Rattle.std.proofs.lemmas.Grind.{common_steps}
use Rattle.std.proofs.lemmas.List.{length-map, map-append}
use Rattle.bam_code.specs.declared.line.Line.{Line}
use Rattle.move_coalescing.specs.Coalesced.{OnlyMovesGo}
use Rattle.move_coalescing.specs.Outlines.{firm, is_register_move, outline, register_moves}

is_move-outline : (l : Line) → is_register_move (outline l) ≡ is_register_move l
is_move-outline l = grind arith

moves-outline : (ls : List Line) → register_moves (map outline ls) ≡ register_moves ls
moves-outline [] = refl
moves-outline (l ∷ ls) = rw (is_move-outline l, moves-outline ls) refl

same_moves : (xs ys : List Line) → map outline ys ≡ map outline xs → register_moves ys ≡ register_moves xs
same_moves xs ys same = sym (moves-outline ys) ∙ ap register_moves same ∙ moves-outline xs

-- other registers
pub only_renamed : (xs ys zs : List Line) → map outline ys ≡ map outline xs → OnlyMovesGo (xs ++ zs) (ys ++ zs)
only_renamed xs ys zs same =
    let all : map outline (ys ++ zs) ≡ map outline (xs ++ zs) = rw (map-append outline ys zs, map-append outline xs zs, same) refl in
    record {
      lines = ap firm all;
      moves = omega (arith, same_moves (xs ++ zs) (ys ++ zs) all);
    }

firm-dropped : (xs ys : List Line) (l : Line) → is_register_move l ≡ true → firm (map outline (xs ++ ys)) ≡ firm (map outline (xs ++ l ∷ ys))
firm-dropped [] ys l is = rw (is_move-outline l, is) refl
firm-dropped (x ∷ xs) ys l is = rw (firm-dropped xs ys l is) refl

moves-dropped : (xs ys : List Line) (l : Line) → register_moves (xs ++ ys) ≤ register_moves (xs ++ l ∷ ys)
moves-dropped [] ys l = omega arith
moves-dropped (x ∷ xs) ys l = omega (arith, moves-dropped xs ys l)

-- a move goes
pub only_dropped : (xs ys : List Line) (l : Line) → is_register_move l ≡ true → OnlyMovesGo (xs ++ l ∷ ys) (xs ++ ys)
only_dropped xs ys l is = record {
  lines = firm-dropped xs ys l is;
  moves = moves-dropped xs ys l;
}

pub only_same : (xs ys : List Line) → ys ≡ xs → OnlyMovesGo xs ys
only_same xs ys same = record {
  lines = ap (λ ls. firm (map outline ls)) same;
  moves = omega (arith, ap register_moves same);
}

pub only_then : {xs ys zs : List Line} → OnlyMovesGo xs ys → OnlyMovesGo ys zs → OnlyMovesGo xs zs
only_then first second = record {
  lines = second.lines ∙ first.lines;
  moves = omega (arith, first.moves, second.moves);
}

firm-first : (x : Line) (is : Bool) (xs ys : List Line) → firm (xs ++ ys) ≡ firm xs ++ firm ys
    → cond is (firm (xs ++ ys)) (x ∷ firm (xs ++ ys)) ≡ cond is (firm xs) (x ∷ firm xs) ++ firm ys
firm-first x true xs ys more = more
firm-first x false xs ys more = ap (λ ls. x ∷ ls) more

firm-append : (xs ys : List Line) → firm (xs ++ ys) ≡ firm xs ++ firm ys
firm-append [] ys = refl
firm-append (x ∷ xs) ys = firm-first x (is_register_move x) xs ys (firm-append xs ys)

moves-append : (xs ys : List Line) → register_moves (xs ++ ys) ≡ register_moves xs + register_moves ys
moves-append [] ys = omega arith
moves-append (x ∷ xs) ys = omega (arith, moves-append xs ys)

-- more lines behind
pub only_behind : (xs ys zs : List Line) → OnlyMovesGo xs ys → OnlyMovesGo (xs ++ zs) (ys ++ zs)
only_behind xs ys zs only = record {
  lines = rw (map-append outline ys zs, map-append outline xs zs, firm-append (map outline ys) (map outline zs), firm-append (map outline xs) (map outline zs), only.lines) refl;
  moves = omega (arith, moves-append xs zs, moves-append ys zs, only.moves);
}

pub only_last : (xs : List Line) (l : Line) → is_register_move l ≡ true → OnlyMovesGo (xs ++ l ∷ []) xs
only_last xs l is = only_then (only_dropped xs [] l is) (only_same (xs ++ []) xs (sym (append-nil xs)))

pub only_merged : (xs ys zs : List Line) (l : Line) → map outline ys ≡ map outline xs → is_register_move l ≡ true → OnlyMovesGo (xs ++ l ∷ zs) (ys ++ zs)
only_merged xs ys zs l same is = only_then (only_dropped xs zs l is) (only_renamed xs ys zs same)

pub only_kept : (xs ys zs : List Line) (l : Line) → map outline ys ≡ map outline xs → OnlyMovesGo (xs ++ l ∷ reverse zs) (ys ++ reverse (zs ++ l ∷ []))
only_kept xs ys zs l same =
    let front : reverse (zs ++ l ∷ []) ≡ l ∷ reverse zs = grind (arith, common_steps) in
    rw front (only_renamed xs ys (l ∷ reverse zs) same)

pub only_start : (xs zs : List Line) → zs ≡ [] → OnlyMovesGo xs (xs ++ reverse zs)
only_start xs zs none = rw none (only_same xs (xs ++ []) (append-nil xs))

pub only_popped : (all xs ys zs : List Line) (l : Line) → xs ≡ ys ++ l ∷ [] → OnlyMovesGo all (xs ++ reverse zs) → OnlyMovesGo all (ys ++ l ∷ reverse zs)
only_popped all xs ys zs l more only =
    subst (λ ls. OnlyMovesGo all ls) (ap (λ ls. ls ++ reverse zs) more ∙ append_assoc ys (l ∷ []) (reverse zs)) only

pub only_ended : (all xs zs : List Line) → xs ≡ [] → OnlyMovesGo all (xs ++ reverse zs) → OnlyMovesGo all (reverse zs)
only_ended all xs zs none only = subst (λ ls. OnlyMovesGo all (ls ++ reverse zs)) none only

pub same_length : (xs ys : List Line) → map outline ys ≡ map outline xs → length ys ≡ length xs
same_length xs ys same = sym (length-map ys outline) ∙ ap length same ∙ length-map xs outline

pub popped_smaller : (xs ys zs : List Line) (l : Line) → xs ≡ ys ++ l ∷ [] → length zs ≡ length ys → length zs < length xs
popped_smaller xs ys zs l more same =
    let longer : length (ys ++ l ∷ []) ≡ length ys + 1 = grind (arith, common_steps) in
    omega (arith, ap length more, longer, same)
