-- What the lent entries lend of a board to the calls that change one pin, and what they keep meanwhile.
--     lends-entry, comes-entry     the low words and the held edges: a delivery, a low-word write
--     lends-wires, comes-wires     the levels, the held edges and the outside levels: a wire change
-- A board's place goes in, at the state h, and comes back at the state that has the arrays' last values.
-- Assumes nothing.
use Prim.Native.Nat.{ℕ}
use mathlib.Core.List.{[], ◌∷◌, List}
use seplogic.Ra.Ura.{Ura}
use base.Fraction.{full_share}
use mir.Syntax.{named, Width, w8, w32}
use mir.Val.{vptr}
use base.Fml.{Fml, GName, fat, flft, flent, fres}
use types.Logic.{Logic}
use types.Kit.{Goal, Soaks, Item, Seq, ‵, raw, ◌⊛◌, ◌$◌, move, split, split3, group}
use types.SemTy.{Body}
use denote.Laws.{Is}
use denote.Memory.{mem}
use denote.Ref.{MutBor, MutRef}
use Rattle.board.specs.declared.Board.{Board}
use Rattle.board.specs.State.{with_entry, with_wires}
use Rattle.board.specs.contracts.Board as T
use Rattle.board.proofs.Board.TheLaws as T'
use Rattle.nataqvoju.proofs.Tested.{mach}
use Rattle.nataqvoju.proofs.Rows.{Row, Rows, lends, comes}
use Rattle.nataqvoju.proofs.Apart.{low-at, level-at, held_at, outside-at, AllBack, low-is, level-is, held-is, outside-is, placed-is, parted, joined}

-- the arrays of a board that lies at (b, o), each under a name of its own
abbrev pub low-ref : Board → ℕ → ℕ → GName → MutBor (List ℕ)
low-ref h b o δ = record { ref_ptr = (b, low-at o); ghost_name = δ; now = h.controller.entries.low }

abbrev pub level-ref : Board → ℕ → ℕ → GName → MutBor (List ℕ)
level-ref h b o δ = record { ref_ptr = (b, level-at o); ghost_name = δ; now = h.controller.entries.level }

abbrev pub held-ref : Board → ℕ → ℕ → GName → MutBor (List ℕ)
held-ref h b o δ = record { ref_ptr = (b, held_at o); ghost_name = δ; now = h.controller.entries.held }

abbrev pub outside-ref : Board → ℕ → ℕ → GName → MutBor (List ℕ)
outside-ref h b o δ = record { ref_ptr = (b, outside-at o); ghost_name = δ; now = h.outside }

-- lent for the lifetime α, as the i-th of the callee's
abbrev pub Lent : Width → ℕ → ℕ → MutBor (List ℕ) → Fml
Lent w i α x = (MutRef (named i) (α ∷ []) (Rows w)).own_val x (vptr x.ref_ptr.0 x.ref_ptr.1 ∷ [])

abbrev Lender : Width → ℕ → MutBor (List ℕ) → Fml
Lender w α x = flent (α ∷ []) (Body (mem (Rows w)) x.ref_ptr.0 x.ref_ptr.1 x.ghost_name)

abbrev pub token : ℕ → Fml
token α = flft (α ∷ []) full_share

-- an array's last value
abbrev pub last : Width → GName → List ℕ → Fml
last w δ xs = fres δ ((Rows w).coded.code xs)

module _ {M : Type 1} {𝓤 : Ura M} (𝓛 : Logic 𝓤) (h : Board) (b o : ℕ) where
  -- the low words are lent for α under δ, the held edges for β under ε
  abbrev pub EntryKept : ℕ → ℕ → GName → GName → Item 𝓤
  EntryKept α β δ ε = ‵ (Lender w32 α (low-ref h b o δ)) ⊛ ‵ (Lender w8 β (held-ref h b o ε)) ⊛ ‵ (Row w8 b (level-at o) h.controller.entries.level) ⊛ ‵ (Row w8 b (outside-at o) h.outside) ⊛ raw (AllBack 𝓛 h b o)

  -- the levels are lent for α under δ, the held edges for β under ε, the outside levels for χ under ζ
  abbrev pub WiresKept : ℕ → ℕ → ℕ → GName → GName → GName → Item 𝓤
  WiresKept α β χ δ ε ζ = ‵ (Lender w8 α (level-ref h b o δ)) ⊛ ‵ (Lender w8 β (held-ref h b o ε)) ⊛ ‵ (Lender w8 χ (outside-ref h b o ζ)) ⊛ ‵ (Row w32 b (low-at o) h.controller.entries.low) ⊛ raw (AllBack 𝓛 h b o)

module _ {M : Type 1} {𝓤 : Ura M} {𝓛 : Logic 𝓤} {K : Type 0} {Γ : List (Item 𝓤)} {G : Goal 𝓤 𝓛.H} where
  module _ (t : K) (z : Soaks G) (h : Board) (was : Is T.the_row h (mach h ∷ [])) (b o : ℕ) where
    pub lends-entry : ((α β : ℕ) (δ ε : GName) → Seq K 𝓛 (‵ (token α) ∷ ‵ (token β) ∷ ‵ (Lent w32 0 α (low-ref h b o δ)) ∷ ‵ (Lent w8 1 β (held-ref h b o ε)) ∷ EntryKept 𝓛 h b o α β δ ε ∷ Γ) G)
        → Seq K 𝓛 (‵ (fat full_share T'.mir b o (mach h)) ∷ Γ) G
    lends-entry k =
        parted t h b o $ lends t z w32 (named 0) b (low-at o) h.controller.entries.low (low-is h was) (λ α δ. move t (4 ∷ []) $ lends t z w8 (named 1) b (held_at o) h.controller.entries.held (held-is h was) (λ β ε.
        -- [β's token; the held edges; their lender's part; α's token; the low words; theirs; levels; outside; the way
        -- back]
        move t (5 ∷ 2 ∷ 6 ∷ 7 ∷ 8 ∷ []) $ group t 5 $ move t (3 ∷ 1 ∷ 4 ∷ 2 ∷ []) $ k α β δ ε))

    pub comes-entry : {α β : ℕ} {δ ε : GName} (w k : List ℕ) → (Is T.the_row (with_entry h w k) (mach (with_entry h w k) ∷ []) → Seq K 𝓛 (‵ (fat full_share T'.mir b o (mach (with_entry h w k))) ∷ Γ) G)
        → Seq K 𝓛 (‵ (token α) ∷ ‵ (token β) ∷ ‵ (last w32 δ w) ∷ ‵ (last w8 ε k) ∷ EntryKept 𝓛 h b o α β δ ε ∷ Γ) G
    comes-entry w k then =
        move t (4 ∷ []) $ split t $ move t (1 ∷ []) $ split t $ move t (1 ∷ []) $ split3 t $
        -- [levels; outside; the way back; the held edges' lender's part; the low words'; α's token; β's token; the low
        -- words' last; the held edges' last]
        move t (5 ∷ 4 ∷ 7 ∷ []) $ comes t z w32 b (low-at o) w (λ w-is. move t (5 ∷ 4 ∷ 6 ∷ []) $ comes t z w8 b (held_at o) k (λ k-is.
        move t (1 ∷ 2 ∷ 0 ∷ 3 ∷ 4 ∷ []) $ joined t h b o w h.controller.entries.level k h.outside $ then (placed-is h was w h.controller.entries.level k h.outside w-is (level-is h was) k-is (outside-is h was))))

    pub lends-wires : ((α β χ : ℕ) (δ ε ζ : GName)
        → Seq K 𝓛 (‵ (token α) ∷ ‵ (token β) ∷ ‵ (token χ) ∷ ‵ (Lent w8 0 α (level-ref h b o δ)) ∷ ‵ (Lent w8 1 β (held-ref h b o ε)) ∷ ‵ (Lent w8 2 χ (outside-ref h b o ζ)) ∷ WiresKept 𝓛 h b o α β χ δ ε ζ ∷ Γ) G)
        → Seq K 𝓛 (‵ (fat full_share T'.mir b o (mach h)) ∷ Γ) G
    lends-wires k =
        parted t h b o $ move t (1 ∷ []) $ lends t z w8 (named 0) b (level-at o) h.controller.entries.level (level-is h was) (λ α δ. move t (4 ∷ []) $ lends t z w8 (named 1) b (held_at o) h.controller.entries.held (held-is h was) (λ β ε.
        move t (7 ∷ []) $ lends t z w8 (named 2) b (outside-at o) h.outside (outside-is h was) (λ χ ζ.
        -- [χ's token; the outside levels; their lender's part; β's token; the held edges; theirs; α's token; the
        -- levels; theirs; low words; the way back]
        move t (8 ∷ 5 ∷ 2 ∷ 9 ∷ 10 ∷ []) $ group t 5 $ move t (5 ∷ 3 ∷ 1 ∷ 6 ∷ 4 ∷ 2 ∷ []) $ k α β χ δ ε ζ)))

    pub comes-wires : {α β χ : ℕ} {δ ε ζ : GName} (l k u : List ℕ) → (Is T.the_row (with_wires h l k u) (mach (with_wires h l k u) ∷ []) → Seq K 𝓛 (‵ (fat full_share T'.mir b o (mach (with_wires h l k u))) ∷ Γ) G)
        → Seq K 𝓛 (‵ (token α) ∷ ‵ (token β) ∷ ‵ (token χ) ∷ ‵ (last w8 δ l) ∷ ‵ (last w8 ε k) ∷ ‵ (last w8 ζ u) ∷ WiresKept 𝓛 h b o α β χ δ ε ζ ∷ Γ) G
    comes-wires l k u then =
        move t (6 ∷ []) $ split t $ move t (1 ∷ []) $ split t $ move t (1 ∷ []) $ split3 t $
        -- [the outside levels' lender's part; low words; the way back; the held edges'; the levels'; α's token; β's
        -- token; χ's token; the levels' last; the held edges' last; the outside levels' last]
        move t (5 ∷ 4 ∷ 8 ∷ []) $ comes t z w8 b (level-at o) l (λ l-is. move t (5 ∷ 4 ∷ 7 ∷ []) $ comes t z w8 b (held_at o) k (λ k-is. move t (5 ∷ 2 ∷ 6 ∷ []) $ comes t z w8 b (outside-at o) u (λ u-is.
        move t (3 ∷ 2 ∷ 1 ∷ 0 ∷ 4 ∷ []) $ joined t h b o h.controller.entries.low l k u $ then (placed-is h was h.controller.entries.low l k u (low-is h was) l-is k-is u-is))))
