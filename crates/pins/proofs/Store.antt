-- A list after a store, at any index; tables by their elements.
use mathlib.Core.Path.{◌≡◌, sym, ◌∙◌}
use mathlib.Core.Bool.{cond}
use mathlib.Core.List.{List}
use Prim.Native.Nat.{ℕ, ◌<◌}
use native.Mathlib.Decide.{ℕ_discrete}
use lib.Dec.{eqb}
use lib.ListN.{get_or, length, set}
use lib.Seq.{ext_get_or, get_or-set_same, get_or-set_other}
use borrow.Author.Tests.{eq-eqb, ne_eqb}
use Rattle.pins.specs.Pins.{pins}
use Rattle.pins.proofs.Fill.{get_or-tab, length-tab}

pub get_or_set : {A : Type 0} (l : List A) (i j : ℕ) (x d : A) → i < length l → get_or (set l i x) j d ≡ cond (eqb j i) x (get_or l j d)
get_or_set l i j x d h = go (ℕ_discrete j i)
  where
    go : Dec (j ≡ i) → get_or (set l i x) j d ≡ cond (eqb j i) x (get_or l j d)
    go (yes e) = rw (eq-eqb j i e, e) (get_or-set_same l i x d h)
    go (no n) = rw (ne_eqb j i n) (get_or-set_other l i j x d n)

-- ---- tables

pub pins-cong : {A : Type 0} (f g : ℕ → A) (z : A) → ((i : ℕ) → i < 24 → f i ≡ g i) → pins f ≡ pins g
pins-cong f g z h =
    ext_get_or z (pins f) (pins g) (length-tab f 0 24 ∙ sym (length-tab g 0 24))
    (λ i l. let k : i < 24 = rw (length-tab f 0 24) at l in get_or-tab f 24 i z k ∙ h i k ∙ sym (get_or-tab g 24 i z k))
