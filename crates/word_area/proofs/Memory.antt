-- What the walks share: the rows of the types, and places that lose their values. Assumes `Logic`.
use Prim.Native.Nat.{ℕ, ◌+◌}
use mathlib.Core.Path.{◌≡◌, subst}
use mathlib.Core.List.{List, [], ◌∷◌}
use lib.ListN.{length, replicate}
use seplogic.Ra.Ura.{Ura}
use base.Fraction.{full_share}
use base.Logic.{ent, emp, id⊢}
use base.Fml.{fat, froom}
use types.Logic.{Logic, sem}
use types.Kit.{‵, some, given, ◌⊛◌, ◌$◌, ◌∵◌, !, qed, by, move, keep, use1, pick, learn, split, fsplit, fjoin, done}
use denote.RattleType.{RattleType}
use Rattle.std.specs.Prelude.{Option, Some, None}
use Rattle.std.proofs.mem.Param.{El, R, el_x, elτ}
use Rattle.std_alloc.proofs.RawLayout.{as_raw}
use Rattle.std_alloc.proofs.RcSteps.{Good}
use Rattle.circular_buffer.specs.Ownership.{slot, slots}
use Rattle.circular_buffer.proofs.Memory.{sz, Place, value_out}
use Rattle.word_area.specs.contracts.block.Places as P-type
use Rattle.word_area.specs.contracts.block.Start as S-type

module _ (E : El) where
  abbrev pub Pl : RattleType
  Pl = P-type.the_row (R E)

  abbrev pub St : RattleType
  St = S-type.the_row (R E)

module _ (E : El) {M : Type 1} {𝓤 : Ura M} (𝓛 : Logic 𝓤) (b : ℕ) where
  -- a place forgets what it holds
  pub slot_emptied : (c : Place E) (o : ℕ) → ent 𝓤 (sem 𝓛 (slot (R E) b o c)) (sem 𝓛 (slot (R E) b o None))
  slot_emptied None o = id⊢ 𝓤 _
  slot_emptied (Some x) o =
      qed 𝓛 (‵ (slot (R E) b o (Some x)) ∷ []) ∵
      use1 𝓛 (some (λ v. given (Good (elτ E) v) (‵ (fat full_share (elτ E) b o v) ⊛ ‵ (E.row.own_val x (v ∷ []))))) (value_out 0 E.row E.laws 𝓛 x b o) $
      pick ! (λ v. learn ! (λ good. split ! $
      use1 𝓛 (‵ (froom (elτ E) b o)) (𝓛.laws.at_room (elτ E) b o v) $ as_raw ! (elτ E) b o $ keep ! (0 ∷ []) $ done !))

  -- and so do all places of a row
  row_emptied : (cs : List (Place E)) (o : ℕ) → ent 𝓤 (sem 𝓛 (slots (R E) b o cs)) (sem 𝓛 (slots (R E) b o (replicate (length cs) None)))
  row_emptied [] o = id⊢ 𝓤 (emp 𝓤)
  row_emptied (c ∷ cs) o =
      qed 𝓛 (‵ (slots (R E) b o (c ∷ cs)) ∷ []) ∵ fsplit ! $
      use1 𝓛 (‵ (slot (R E) b o None)) (slot_emptied c o) $ move ! (1 ∷ []) $
      use1 𝓛 (‵ (slots (R E) b (o + sz E) (replicate (length cs) None))) (row_emptied cs (o + sz E)) $ move ! (1 ∷ 0 ∷ []) $ fjoin ! $ done !

  pub emptied : (cs : List (Place E)) (n o : ℕ) → length cs ≡ n → ent 𝓤 (sem 𝓛 (slots (R E) b o cs)) (sem 𝓛 (slots (R E) b o (replicate n None)))
  emptied cs n o long =
      subst (λ k. ent 𝓤 (sem 𝓛 (slots (R E) b o cs)) (sem 𝓛 (slots (R E) b o (replicate k None)))) long (row_emptied cs o)
