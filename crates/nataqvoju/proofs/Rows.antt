-- 24 numbers in a row in memory: lent as `&mut [u32; 24]` or `&mut [u8; 24]` for a lifetime that is made for it, and
-- back at the last value; as steps of `types.Kit`'s calculus.
-- Assumes nothing.
use mathlib.Core.Path.{refl, sym}
use Prim.Native.Nat.{ℕ}
use mathlib.Core.List.{[], ◌∷◌, List, map}
use seplogic.Ra.Ura.{Ura}
use base.Fraction.{full_share}
use mir.Syntax.{Lifetime, Width, ty_array, ty_int}
use mir.Val.{Val, vint, vptr}
use base.Fml.{Fml, GName, fsep, fat, flft, flent, fres}
use types.Logic.{Logic}
use types.Kit.{Goal, Soaks, Item, Seq, ‵, ◌⊛◌, some, later, ◌$◌, move, drop, use1, split, pick, rewrite, fsplit, fjoin, fpick, fpack, await}
use types.Tokens.{lft_new, lft_end, lent_back, res_agree}
use types.SemTy.{Body}
use denote.RattleType.{RattleType}
use denote.Laws.{Is, shows}
use denote.Memory.{mem, cell_at, part_of}
use denote.Plain.{UInt, uint_Makes, uint_Tells}
use denote.Ref.{MutRef}
use denote.Lend.{lends_ref}
use denote.Steps.{owned, facts}
use denote.Struct.Steps.{spelt}
use denote.Array.{Array, array_val, Array-Makes, Array-Tells}

-- 24 numbers of a width, in a row
abbrev pub Row : Width → ℕ → ℕ → List ℕ → Fml
Row w b o xs = fat full_share (ty_array (ty_int w) 24) b o (array_val (map (vint w) xs))

-- the same as a type, and the one machine value that they have
abbrev pub Rows : Width → RattleType
Rows w = Array (UInt w) 24

abbrev pub spelled : Width → List ℕ → List Val
spelled w xs = array_val (map (vint w) xs) ∷ []

module _ {M : Type 1} {𝓤 : Ura M} {𝓛 : Logic 𝓤} {K : Type 0} {Γ : List (Item 𝓤)} {G : Goal 𝓤 𝓛.H} where
  -- a row is lent as `&mut`, for a lifetime that is made for it
  pub lends : K → Soaks G → (w : Width) (ℓ : Lifetime) (b o : ℕ) (xs : List ℕ) → Is (Rows w) xs (spelled w xs)
      → ((α : ℕ) (γ : GName) → Seq K 𝓛 (‵ (flft (α ∷ []) full_share) ∷ ‵ ((MutRef ℓ (α ∷ []) (Rows w)).own_val (record { ref_ptr = (b, o); ghost_name = γ; now = xs }) (vptr b o ∷ [])) ∷ ‵ (flent (α ∷ []) (Body (mem (Rows w)) b o γ)) ∷ Γ) G)
      → Seq K 𝓛 (‵ (Row w b o xs) ∷ Γ) G
  unfolding part_of
  lends t z w ℓ b o xs is k =
      owned t (Rows w) (Is (Rows w)) (Array-Makes 𝓛 (UInt w) (uint_Makes 𝓛 w) 24) xs _ is $ move t (1 ∷ []) $
      use1 𝓛 (‵ (cell_at full_share (Rows w).mir (spelled w xs) b o)) (𝓛.laws.at_raw full_share _ b o _) $ fjoin t $
      fpack t (List Val) (λ us. fsep (cell_at full_share (Rows w).mir us b o) ((Rows w).own_val xs us)) (spelled w xs) $ lft_new t z (λ α. move t (1 ∷ []) $
      use1 𝓛 (later (some (λ (γ : GName). ‵ ((MutRef ℓ (α ∷ []) (Rows w)).own_val (record { ref_ptr = (b, o); ghost_name = γ; now = xs }) (vptr b o ∷ [])) ⊛ ‵ (flent (α ∷ []) (Body (mem (Rows w)) b o γ))))) (lends_ref 𝓛 (Rows w) ℓ (α ∷ []) xs b o) $
      await t z $ pick t (λ γ. split t $ move t (2 ∷ []) $ k α γ))

  -- and comes back at the last value
  pub comes : K → Soaks G → (w : Width) (b o : ℕ) {α : ℕ} {γ : GName} (ys : List ℕ) → (Is (Rows w) ys (spelled w ys) → Seq K 𝓛 (‵ (Row w b o ys) ∷ Γ) G)
      → Seq K 𝓛 (‵ (flft (α ∷ []) full_share) ∷ ‵ (flent (α ∷ []) (Body (mem (Rows w)) b o γ)) ∷ ‵ (fres γ ((Rows w).coded.code ys)) ∷ Γ) G
  unfolding part_of
  comes t z w b o ys k =
      lft_end t z $ lent_back t z $ fpick t (λ x. fsplit t $ move t (2 ∷ 1 ∷ []) $ res_agree t (Rows w).coded (λ e. drop t $ drop t $ rewrite t 0 (λ (u : List ℕ). ‵ ((mem (Rows w)).own_at u b o)) (sym e) refl $
      fpick t (λ vs. fsplit t $ spelt t (Rows w) (Is (Rows w)) (shows 𝓛 (Rows w)) (spelled w) (Array-Tells (UInt w) (λ y. vint w y ∷ []) (uint_Tells w) 24) full_share ys vs b o $
      use1 𝓛 (‵ (Row w b o ys)) (𝓛.laws.raw_at full_share _ b o _) $ move t (1 ∷ []) $ facts t (Rows w) (Is (Rows w)) (shows 𝓛 (Rows w)) ys (spelled w ys) k)))
