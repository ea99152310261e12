-- A lent board's place, taken apart into the rows that the calls change at one pin, its low words, levels, held edges
-- and outside levels, and put together with others in their places.
-- Here alone is said where in the board they lie.
-- Assumes nothing.
use mathlib.Core.Path.{◌≡◌, refl, subst}
use Prim.Native.Nat.{ℕ, zero, ◌+◌}
use mathlib.Core.List.{[], ◌∷◌, List, map}
use seplogic.Ra.Ura.{Ura}
use base.Fraction.{full_share}
use mir.Syntax.{Sym, Tys, Width, ty_int, ty_struct, w8, w32}
use mir.Val.{Val, Vals, vint, vstruct, vnil, vcons}
use base.Logic.{SProp, ent, sep, wand, all, id⊢, all_e, apply∗}
use base.Fml.{Fml, ftrue, fat}
use prog.Wp.{Heap}
use prog.Model.{fields_at}
use types.Logic.{Logic, sem}
use types.Kit.{Goal, Item, mean, Step, step, ‵, raw, ◌⊛◌, ◌$◌, ◌∵◌, !, qed, move, use1, use2, split, split3, group, frame, each, assume, done}
use denote.Laws.{Is}
use denote.Plain.{UInt}
use denote.Array.{array_val}
use denote.Struct.Laws as LL
use Rattle.board.specs.declared.Board.{Board}
use Rattle.entries.specs.Table.{with_low, with_level, with_held}
use Rattle.board.specs.State.{with_entry, with_wires}
use Rattle.controller.specs.declared.Controller.{Controller}
use Rattle.entries.specs.declared.Entries.{Entries}
use Rattle.timers.specs.contracts.Timers as S
use Rattle.timers.proofs.Timers.TheLaws as S'
use Rattle.controller.specs.contracts.Controller as C
use Rattle.controller.proofs.Controller.TheLaws as C'
use Rattle.entries.specs.contracts.Entries as E
use Rattle.entries.proofs.Entries.TheLaws as E'
use Rattle.board.specs.contracts.Board as T
use Rattle.board.proofs.Board.TheLaws as T'
use Rattle.nataqvoju.proofs.Tested.{mach}
use Rattle.nataqvoju.proofs.Rows.{Row, Rows, spelled}

-- the board with other low words, levels, held edges and outside levels
abbrev placed : Board → List ℕ → List ℕ → List ℕ → List ℕ → Board
placed h w l k u = with_wires (with_entry h w k) l k u

-- a struct's place is its fields' places, and these, at any values, are the struct's place again
abbrev Refill : {M : Type 1} (𝓤 : Ura M) (H : Heap 𝓤) → Sym → Tys → ℕ → ℕ → Vals → SProp 𝓤
Refill 𝓤 H ν τs b o us = wand 𝓤 (fields_at 𝓤 H full_share τs zero b o us) (H.at full_share (ty_struct ν τs) b o (vstruct us))

unfoldable Again : {M : Type 1} (𝓤 : Ura M) (H : Heap 𝓤) → Sym → Tys → ℕ → ℕ → SProp 𝓤
Again 𝓤 H ν τs b o = all 𝓤 (Refill 𝓤 H ν τs b o)

module _ {M : Type 1} {𝓤 : Ura M} {𝓛 : Logic 𝓤} {K : Type 0} {Γ : List (Item 𝓤)} {G : Goal 𝓤 𝓛.H} {ν : Sym} {τs : Tys} {b o : ℕ} where
  open 𝓛 use {H}

  fields : K → {vs : Vals} → Step K 𝓛 (raw (fields_at 𝓤 H full_share τs zero b o vs) ∷ raw (Again 𝓤 H ν τs b o) ∷ Γ) G (‵ (fat full_share (ty_struct ν τs) b o (vstruct vs)) ∷ Γ) G
  unfolding Again
  fields t {vs} = step (λ s. use1 𝓛 (raw (fields_at 𝓤 H full_share τs zero b o vs) ⊛ raw (Again 𝓤 H ν τs b o)) (𝓛.laws.at_fields full_share ν τs b o vs) $ split t $ s)

  struct : K → {i : Item 𝓤} (us : Vals) → mean 𝓛 i ≡ fields_at 𝓤 H full_share τs zero b o us → Step K 𝓛 (‵ (fat full_share (ty_struct ν τs) b o (vstruct us)) ∷ Γ) G (i ∷ raw (Again 𝓤 H ν τs b o) ∷ Γ) G
  unfolding Again
  struct t {i} us e = step (λ s. use1 𝓛 (raw (fields_at 𝓤 H full_share τs zero b o us)) (subst (λ (P : SProp 𝓤). ent 𝓤 (mean 𝓛 i) P) e (id⊢ 𝓤 (mean 𝓛 i))) $ move t (1 ∷ []) $
      use1 𝓛 (raw (Refill 𝓤 H ν τs b o us)) (all_e 𝓤 (Refill 𝓤 H ν τs b o) us) $ move t (1 ∷ 0 ∷ []) $ use2 𝓛 (‵ (fat full_share (ty_struct ν τs) b o (vstruct us))) (apply∗ 𝓤 (fields_at 𝓤 H full_share τs zero b o us) (H.at full_share (ty_struct ν τs) b o (vstruct us))) $ s)

-- where the low words, the pins' levels, their held edges and the outside levels of a board at o lie
abbrev pub low-at : ℕ → ℕ
low-at o = o + 104 + 8 + 0

abbrev pub level-at : ℕ → ℕ
level-at o = o + 104 + 8 + 120

abbrev pub held_at : ℕ → ℕ
held_at o = o + 104 + 8 + 144

abbrev pub outside-at : ℕ → ℕ
outside-at o = o + 280

-- the rows themselves
abbrev words : ℕ → ℕ → List ℕ → Fml
words b o = Row w32 b (low-at o)

abbrev levels : ℕ → ℕ → List ℕ → Fml
levels b o = Row w8 b (level-at o)

abbrev edges : ℕ → ℕ → List ℕ → Fml
edges b o = Row w8 b (held_at o)

abbrev outsides : ℕ → ℕ → List ℕ → Fml
outsides b o = Row w8 b (outside-at o)

module _ {M : Type 1} {𝓤 : Ura M} (𝓛 : Logic 𝓤) where
  abbrev ◌∗◌ : SProp 𝓤 → SProp 𝓤 → SProp 𝓤
  P ∗ Q = sep 𝓤 P Q

  abbrev ⟦◌⟧ : Fml → SProp 𝓤
  ⟦ P ⟧ = sem 𝓛 P

  infixr 35 ◌∗◌
  abbrev Rest : ℕ → ℕ → List ℕ → List ℕ → List ℕ → List ℕ → SProp 𝓤
  Rest b o w l k u = ⟦ words b o w ⟧ ∗ ⟦ levels b o l ⟧ ∗ ⟦ edges b o k ⟧ ∗ ⟦ outsides b o u ⟧

  abbrev Back : Board → ℕ → ℕ → List ℕ → List ℕ → List ℕ → List ℕ → SProp 𝓤
  Back h b o w l k u = wand 𝓤 (Rest b o w l k u) ⟦ fat full_share T'.mir b o (mach (placed h w l k u)) ⟧

  abbrev Backs : Board → ℕ → ℕ → List ℕ × List ℕ × List ℕ × List ℕ → SProp 𝓤
  Backs h b o r = Back h b o r.0 r.1 r.2 r.3

  abbrev pub AllBack : Board → ℕ → ℕ → SProp 𝓤
  AllBack h b o = all 𝓤 (Backs h b o)

  module _ (h : Board) (b o : ℕ) where
    abbrev e : Entries
    e = h.controller.entries

    abbrev row : Width → List ℕ → Val
    row w xs = array_val (map (vint w) xs)

    abbrev dests : List ℕ → Fml
    dests = Row w8 b (o + 104 + 8 + 96)

    abbrev timers : Fml
    timers = fat full_share S'.mir b (o + 0) (LL.val S.the_type S'.the_laws h.timers)

    abbrev controller : Controller → Fml
    controller c = fat full_share C'.mir b (o + 104) (LL.val C.the_type C'.the_laws c)

    abbrev id : ℕ → Fml
    id n = fat full_share (ty_int w32) b (o + 104 + 0) (vint w32 n)

    abbrev index : ℕ → Fml
    index n = fat full_share (ty_int w32) b (o + 104 + 4) (vint w32 n)

    abbrev entries : Entries → Fml
    entries x = fat full_share E'.mir b (o + 104 + 8) (LL.val E.the_type E'.the_laws x)

    apart : ent 𝓤 ⟦ fat full_share T'.mir b o (mach h) ⟧ (⟦ words b o e.low ⟧ ∗ ⟦ levels b o e.level ⟧ ∗ ⟦ edges b o e.held ⟧ ∗ ⟦ outsides b o h.outside ⟧ ∗ AllBack h b o)
    apart =
        qed 𝓛 (‵ (fat full_share T'.mir b o (mach h)) ∷ []) ∵ fields ! $ use1 𝓛 (‵ timers ⊛ ‵ (controller h.controller) ⊛ ‵ (outsides b o h.outside) ⊛ ‵ ftrue) (id⊢ 𝓤 _) $ split ! $ move ! (1 ∷ []) $ split3 ! $
        -- [controller; outside; true; timers; the board again]
        fields ! $ use1 𝓛 (‵ (id h.controller.id) ⊛ ‵ (index h.controller.index) ⊛ ‵ (entries e) ⊛ ‵ ftrue) (id⊢ 𝓤 _) $ split ! $ move ! (1 ∷ []) $ split3 ! $
        -- [index; entries; true; id; the controller again; outside; true; timers; the board again]
        move ! (1 ∷ []) $ fields ! $ use1 𝓛 (‵ (words b o e.low) ⊛ ‵ (dests e.destination) ⊛ ‵ (levels b o e.level) ⊛ ‵ (edges b o e.held) ⊛ ‵ ftrue) (id⊢ 𝓤 _) $
        split ! $ move ! (1 ∷ []) $ split ! $ move ! (1 ∷ []) $ split3 ! $
        -- [level; held; true; destination; low; the entries again; index; true; id; the controller again; outside;
        -- true; timers; the board again]
        move ! (4 ∷ []) $ frame ! $ frame ! $ frame ! $ move ! (7 ∷ []) $ frame ! $
        each ! (Backs h b o) (λ (w, l, k, u).
        assume {P = ⟦ fat full_share T'.mir b o (mach (placed h w l k u)) ⟧} ! (‵ (words b o w) ⊛ ‵ (levels b o l) ⊛ ‵ (edges b o k) ⊛ ‵ (outsides b o u)) $ split ! $ move ! (1 ∷ []) $ split3 ! $
        -- [level; held; outside; low; true; destination; the entries again; index; true; id; the controller again;
        -- true; timers; the board again]
        move ! (3 ∷ 5 ∷ 0 ∷ 1 ∷ 4 ∷ []) $ group ! 5 $ move ! (0 ∷ 2 ∷ []) $ struct ! (vcons (row w32 w) (vcons (row w8 e.destination) (vcons (row w8 l) (vcons (row w8 k) vnil)))) refl $
        -- [entries; outside; index; true; id; the controller again; true; timers; the board again]
        move ! (4 ∷ 2 ∷ 0 ∷ 3 ∷ []) $ group ! 4 $ move ! (0 ∷ 2 ∷ []) $ struct ! (vcons (vint w32 h.controller.id) (vcons (vint w32 h.controller.index) (vcons (LL.val E.the_type E'.the_laws (with_level (with_held (with_low e w) k) l)) vnil))) refl $
        -- [controller; outside; true; timers; the board again]
        move ! (3 ∷ 0 ∷ 1 ∷ 2 ∷ []) $ group ! 4 $ struct ! (vcons (LL.val S.the_type S'.the_laws h.timers) (vcons (LL.val C.the_type C'.the_laws (placed h w l k u).controller) (vcons (row w8 u) vnil))) refl $ done !)

-- ---- what is known of the rows: a board's own, and a board's that is made of others
module _ (h : Board) (was : Is T.the_row h (mach h ∷ [])) where
  controller-is : Is C.the_row h.controller (LL.vals C.the_type C'.the_laws h.controller)
  controller-is = (LL.owed T.the_type T'.the_laws h _ was).1.0

  entries-is : Is E.the_row h.controller.entries (LL.vals E.the_type E'.the_laws h.controller.entries)
  entries-is = (LL.owed C.the_type C'.the_laws h.controller _ controller-is).1.1.0

  pub index_is : Is (UInt w32) h.controller.index (vint w32 h.controller.index ∷ [])
  index_is = (LL.owed C.the_type C'.the_laws h.controller _ controller-is).1.0

  pub low-is : Is (Rows w32) h.controller.entries.low (spelled w32 h.controller.entries.low)
  low-is = (LL.owed E.the_type E'.the_laws h.controller.entries _ entries-is).0

  pub level-is : Is (Rows w8) h.controller.entries.level (spelled w8 h.controller.entries.level)
  level-is = (LL.owed E.the_type E'.the_laws h.controller.entries _ entries-is).1.1.0

  pub held-is : Is (Rows w8) h.controller.entries.held (spelled w8 h.controller.entries.held)
  held-is = (LL.owed E.the_type E'.the_laws h.controller.entries _ entries-is).1.1.1.0

  pub outside-is : Is (Rows w8) h.outside (spelled w8 h.outside)
  outside-is = (LL.owed T.the_type T'.the_laws h _ was).1.1.0

  module _ (w l k u : List ℕ) (w-is : Is (Rows w32) w (spelled w32 w)) (l-is : Is (Rows w8) l (spelled w8 l)) (k-is : Is (Rows w8) k (spelled w8 k)) (u-is : Is (Rows w8) u (spelled w8 u)) where
    placed-entries : Is E.the_row (placed h w l k u).controller.entries (LL.vals E.the_type E'.the_laws (placed h w l k u).controller.entries)
    placed-entries = LL.owes E.the_type E'.the_laws (placed h w l k u).controller.entries (w-is, ((LL.owed E.the_type E'.the_laws h.controller.entries _ entries-is).1.0, (l-is, (k-is, tt))))

    placed-controller : Is C.the_row (placed h w l k u).controller (LL.vals C.the_type C'.the_laws (placed h w l k u).controller)
    placed-controller = LL.owes C.the_type C'.the_laws (placed h w l k u).controller ((LL.owed C.the_type C'.the_laws h.controller _ controller-is).0, ((LL.owed C.the_type C'.the_laws h.controller _ controller-is).1.0, (placed-entries, tt)))

    pub placed-is : Is T.the_row (placed h w l k u) (mach (placed h w l k u) ∷ [])
    placed-is = LL.owes T.the_type T'.the_laws (placed h w l k u) ((LL.owed T.the_type T'.the_laws h _ was).0, (placed-controller, (u-is, tt)))

-- ---- as steps
module _ {M : Type 1} {𝓤 : Ura M} {𝓛 : Logic 𝓤} {K : Type 0} {Γ : List (Item 𝓤)} {G : Goal 𝓤 𝓛.H} where
  open 𝓛 use {H}

  pub parted : K → (h : Board) (b o : ℕ)
      → Step K 𝓛 (‵ (words b o h.controller.entries.low) ∷ ‵ (levels b o h.controller.entries.level) ∷ ‵ (edges b o h.controller.entries.held) ∷ ‵ (outsides b o h.outside) ∷ raw (AllBack 𝓛 h b o) ∷ Γ) G
      (‵ (fat full_share T'.mir b o (mach h)) ∷ Γ) G
  parted t h b o = step (λ s. use1 𝓛 (‵ (words b o h.controller.entries.low) ⊛ ‵ (levels b o h.controller.entries.level) ⊛ ‵ (edges b o h.controller.entries.held) ⊛ ‵ (outsides b o h.outside) ⊛ raw (AllBack 𝓛 h b o)) (apart 𝓛 h b o) $
      split t $ move t (1 ∷ []) $ split t $ move t (1 ∷ []) $ split3 t $ move t (4 ∷ 3 ∷ []) $ s)

  pub joined : K → (h : Board) (b o : ℕ) (w l k u : List ℕ)
      → Step K 𝓛 (‵ (fat full_share T'.mir b o (mach (placed h w l k u))) ∷ Γ) G
      (‵ (words b o w) ∷ ‵ (levels b o l) ∷ ‵ (edges b o k) ∷ ‵ (outsides b o u) ∷ raw (AllBack 𝓛 h b o) ∷ Γ) G
  joined t h b o w l k u = step (λ s. group t 4 $ move t (1 ∷ []) $
      use1 𝓛 (raw (Back 𝓛 h b o w l k u)) (all_e 𝓤 (Backs 𝓛 h b o) (w, l, k, u)) $ move t (1 ∷ 0 ∷ []) $
      use2 𝓛 (‵ (fat full_share T'.mir b o (mach (placed h w l k u)))) (apply∗ 𝓤 (Rest 𝓛 b o w l k u) (H.at full_share T'.mir b o (mach (placed h w l k u)))) $ s)
