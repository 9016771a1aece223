-- The layout in front of a text of rules, and behind a full stop.
use Rattle.std.proofs.Common.{◌≡◌, ◌≢◌, ℕ, Bool, true, false, List, [], ◌∷◌, ◌++◌, Option, None, Some, ◌⊎◌, inl, inr, refl, ◌∙◌, ap, arith}
use Rattle.std.proofs.lemmas.Bool.Decides.{nat_tests}
use Rattle.std.specs.Prelude.{◌==◌, nat_lt, IsTrue, if◌then◌else◌}
use Rattle.source_meaning.specs.RuleText.{COMMENT, LINE_END, gap, is_gap, is_blank, is_lower}
use Rattle.source_meaning.specs.RuleFront.{behind_gap, behind_stop}

gap-blank : (byte : ℕ) (bytes : List ℕ) → is_blank byte ≡ true → gap false (byte ∷ bytes) ≡ gap false bytes
gap-blank byte bytes blank =
    let choice : Bool → Bool = λ is_one. if is_one then gap false bytes else (if byte == COMMENT then gap true bytes else false) in
    ap choice blank

gap-comment : (byte : ℕ) (bytes : List ℕ) → is_blank byte ≡ false → (byte == COMMENT) ≡ true → gap false (byte ∷ bytes) ≡ gap true bytes
gap-comment byte bytes not_blank begins =
    let choice : Bool → Bool = λ is_one. if is_one then gap false bytes else (if byte == COMMENT then gap true bytes else false) in
    let begun : Bool → Bool = λ is_one. if is_one then gap true bytes else false in
    ap choice not_blank ∙ ap begun begins

gap-line_end : (byte : ℕ) (bytes : List ℕ) → (byte == LINE_END) ≡ true → gap true (byte ∷ bytes) ≡ gap false bytes
gap-line_end byte bytes ends =
    let choice : Bool → Bool = λ is_one. if is_one then gap false bytes else (if nat_lt byte 128 then gap true bytes else false) in
    ap choice ends

gap-ascii : (byte : ℕ) (bytes : List ℕ) → (byte == LINE_END) ≡ false → nat_lt byte 128 ≡ true → gap true (byte ∷ bytes) ≡ gap true bytes
gap-ascii byte bytes no_end ascii =
    let choice : Bool → Bool = λ is_one. if is_one then gap false bytes else (if nat_lt byte 128 then gap true bytes else false) in
    let goes_on : Bool → Bool = λ is_one. if is_one then gap true bytes else false in
    ap choice no_end ∙ ap goes_on ascii

-- a text is layout, from within a comment or outside, and what stands behind it
pub record Behind (in_comment : Bool) (bytes rest : List ℕ) : Type 0 where
  pub layout : List ℕ
  pub bytes_are : bytes ≡ layout ++ rest
  pub layout_is : IsTrue (gap in_comment layout)

one_more : (from to : Bool) (byte : ℕ) (bytes rest : List ℕ) (behind : Behind to bytes rest)
    → gap from (byte ∷ behind.layout) ≡ gap to behind.layout → Behind from (byte ∷ bytes) rest
one_more from to byte bytes rest behind goes_on =
    let more : List ℕ → List ℕ = λ rest. byte ∷ rest in
    record { layout = byte ∷ behind.layout; bytes_are = ap more behind.bytes_are; layout_is = goes_on ∙ behind.layout_is }

nothing : (bytes rest : List ℕ) → Some bytes ≡ Some rest → Behind false bytes rest
nothing bytes rest found = record { layout = []; bytes_are = (let same : bytes ≡ rest = cc in same); layout_is = refl }

module _ (byte : ℕ) (bytes rest : List ℕ) where
  outside : (blank begins : Bool) → is_blank byte ≡ blank → (byte == COMMENT) ≡ begins
      → (behind_gap false bytes ≡ Some rest → Behind false bytes rest)
      → (behind_gap true bytes ≡ Some rest → Behind true bytes rest)
      → (if blank then behind_gap false bytes else (if begins then behind_gap true bytes else Some (byte ∷ bytes))) ≡ Some rest
      → Behind false (byte ∷ bytes) rest
  outside true begins is_b is_c on_false on_true found =
      let behind = on_false found in one_more false false byte bytes rest behind (gap-blank byte behind.layout is_b)
  outside false true is_b is_c on_false on_true found =
      let behind = on_true found in one_more false true byte bytes rest behind (gap-comment byte behind.layout is_b is_c)
  outside false false is_b is_c on_false on_true found = nothing (byte ∷ bytes) rest found

  inside : (ends ascii : Bool) → (byte == LINE_END) ≡ ends → nat_lt byte 128 ≡ ascii
      → (behind_gap false bytes ≡ Some rest → Behind false bytes rest)
      → (behind_gap true bytes ≡ Some rest → Behind true bytes rest)
      → (if ends then behind_gap false bytes else (if ascii then behind_gap true bytes else None)) ≡ Some rest
      → Behind true (byte ∷ bytes) rest
  inside true ascii is_e is_a on_false on_true found =
      let behind = on_false found in one_more true false byte bytes rest behind (gap-line_end byte behind.layout is_e)
  inside false true is_e is_a on_false on_true found =
      let behind = on_true found in one_more true true byte bytes rest behind (gap-ascii byte behind.layout is_e is_a)
  inside false false is_e is_a on_false on_true found = absurd (let bad : ⊥ = cc in bad)

-- what stands behind the layout, with the layout
pub lead_of : (in_comment : Bool) (bytes rest : List ℕ) → behind_gap in_comment bytes ≡ Some rest → Behind in_comment bytes rest
lead_of false [] rest found = nothing [] rest found
lead_of true [] rest found = absurd (let bad : ⊥ = cc in bad)
lead_of false (byte ∷ bytes) rest found =
    outside byte bytes rest (is_blank byte) (byte == COMMENT) refl refl (lead_of false bytes rest) (lead_of true bytes rest) found
lead_of true (byte ∷ bytes) rest found =
    inside byte bytes rest (byte == LINE_END) (nat_lt byte 128) refl refl (lead_of false bytes rest) (lead_of true bytes rest) found

module _ (byte : ℕ) (layout rest : List ℕ) where
  skip_outside : (blank begins : Bool)
      → (IsTrue (gap false layout) → behind_gap false (layout ++ rest) ≡ behind_gap false rest)
      → (IsTrue (gap true layout) → behind_gap true (layout ++ rest) ≡ behind_gap false rest)
      → IsTrue (if blank then gap false layout else (if begins then gap true layout else false))
      → (if blank then behind_gap false (layout ++ rest)
      else (if begins then behind_gap true (layout ++ rest) else Some (byte ∷ (layout ++ rest)))) ≡ behind_gap false rest
  skip_outside true begins on_false on_true are = on_false are
  skip_outside false true on_false on_true are = on_true are
  skip_outside false false on_false on_true are = absurd (let bad : ⊥ = cc in bad)

  skip_inside : (ends ascii : Bool)
      → (IsTrue (gap false layout) → behind_gap false (layout ++ rest) ≡ behind_gap false rest)
      → (IsTrue (gap true layout) → behind_gap true (layout ++ rest) ≡ behind_gap false rest)
      → IsTrue (if ends then gap false layout else (if ascii then gap true layout else false))
      → (if ends then behind_gap false (layout ++ rest) else (if ascii then behind_gap true (layout ++ rest) else None)) ≡ behind_gap false rest
  skip_inside true ascii on_false on_true are = on_false are
  skip_inside false true on_false on_true are = on_true are
  skip_inside false false on_false on_true are = absurd (let bad : ⊥ = cc in bad)

-- layout in front is gone over
pub behind_gap-layout : (in_comment : Bool) (layout rest : List ℕ) → IsTrue (gap in_comment layout)
    → behind_gap in_comment (layout ++ rest) ≡ behind_gap false rest
behind_gap-layout false [] rest are = refl
behind_gap-layout true [] rest are = absurd (let bad : ⊥ = cc in bad)
behind_gap-layout false (byte ∷ layout) rest are =
    skip_outside byte layout rest (is_blank byte) (byte == COMMENT) (behind_gap-layout false layout rest) (behind_gap-layout true layout rest) are
behind_gap-layout true (byte ∷ layout) rest are =
    skip_inside byte layout rest (byte == LINE_END) (nat_lt byte 128) (behind_gap-layout false layout rest) (behind_gap-layout true layout rest) are

-- what stands behind the layout behind a full stop, with the layout
pub record Stopped (bytes rest : List ℕ) : Type 0 where
  pub layout : List ℕ
  pub bytes_are : bytes ≡ layout ++ rest
  pub layout_is : IsTrue (is_gap layout)
  pub apart : (rest ≡ []) ⊎ (layout ≢ [])

one_stop : (to : Bool) (byte : ℕ) (bytes rest : List ℕ) (behind : Behind to bytes rest)
    → gap false (byte ∷ behind.layout) ≡ gap to behind.layout → Stopped (byte ∷ bytes) rest
one_stop to byte bytes rest behind goes_on =
    let more : List ℕ → List ℕ = λ rest. byte ∷ rest in
    record {
      layout = byte ∷ behind.layout;
      bytes_are = ap more behind.bytes_are;
      layout_is = goes_on ∙ behind.layout_is;
      apart = inr (λ none. let bad : ⊥ = cc in bad);
    }

module _ (byte : ℕ) (bytes rest : List ℕ) where
  stopped : (blank begins : Bool) → is_blank byte ≡ blank → (byte == COMMENT) ≡ begins
      → (if blank then behind_gap false bytes else (if begins then behind_gap true bytes else None)) ≡ Some rest
      → Stopped (byte ∷ bytes) rest
  stopped true begins is_b is_c found =
      let behind = lead_of false bytes rest found in one_stop false byte bytes rest behind (gap-blank byte behind.layout is_b)
  stopped false true is_b is_c found =
      let behind = lead_of true bytes rest found in one_stop true byte bytes rest behind (gap-comment byte behind.layout is_b is_c)
  stopped false false is_b is_c found = absurd (let bad : ⊥ = cc in bad)

pub stop_of : (bytes rest : List ℕ) → behind_stop bytes ≡ Some rest → Stopped bytes rest
stop_of [] rest found =
    let none : rest ≡ [] = cc in
    record { layout = []; bytes_are = (let same : [] ≡ rest = cc in same); layout_is = refl; apart = inl none }
stop_of (byte ∷ bytes) rest found = stopped byte bytes rest (is_blank byte) (byte == COMMENT) refl refl found

module _ (byte : ℕ) (layout rest : List ℕ) where
  skip_stop : (blank begins : Bool)
      → IsTrue (if blank then gap false layout else (if begins then gap true layout else false))
      → (if blank then behind_gap false (layout ++ rest) else (if begins then behind_gap true (layout ++ rest) else None))
      ≡ behind_gap false rest
  skip_stop true begins are = behind_gap-layout false layout rest are
  skip_stop false true are = behind_gap-layout true layout rest are
  skip_stop false false are = absurd (let bad : ⊥ = cc in bad)

-- layout behind a full stop is gone over, up to what begins with none
pub behind_stop-layout : (layout rest : List ℕ) → IsTrue (is_gap layout) → (rest ≡ []) ⊎ (layout ≢ [])
    → behind_gap false rest ≡ Some rest → behind_stop (layout ++ rest) ≡ Some rest
behind_stop-layout [] [] are apart begun = refl
behind_stop-layout [] (byte ∷ rest) are (inl none) begun = absurd (let bad : ⊥ = cc in bad)
behind_stop-layout [] (byte ∷ rest) are (inr some) begun = absurd (some refl)
behind_stop-layout (byte ∷ layout) rest are apart begun =
    skip_stop byte layout rest (is_blank byte) (byte == COMMENT) are ∙ begun

not_blank : (byte : ℕ) → IsTrue (is_lower byte) → is_blank byte ≡ false
not_blank byte lower = grind (arith, nat_tests)

not_comment : (byte : ℕ) → IsTrue (is_lower byte) → (byte == COMMENT) ≡ false
not_comment byte lower = grind (arith, nat_tests)

-- a small letter begins no layout
pub behind_gap-lower : (byte : ℕ) (bytes : List ℕ) → IsTrue (is_lower byte) → behind_gap false (byte ∷ bytes) ≡ Some (byte ∷ bytes)
behind_gap-lower byte bytes lower =
    let begun : Bool → Option (List ℕ) = λ begins. if begins then behind_gap true bytes else Some (byte ∷ bytes) in
    let choice : Bool → Option (List ℕ) = λ blank. if blank then behind_gap false bytes else begun (byte == COMMENT) in
    ap choice (not_blank byte lower) ∙ ap begun (not_comment byte lower)
