-- Arrays that are made an element a pin, by calls of a closure.
use mathlib.Core.Path.{◌≡◌, sym, subst, ◌∙◌}
use mathlib.Core.List.{List}
use Prim.Native.Nat.{ℕ, zero, suc, ◌+◌, ◌<◌, ◌≤◌}
use native.Mathlib.Decide.{ℕ_discrete}
use native.Mathlib.Omega.{arith}
use lib.ListN.{get_or}
use denote.Param.Members.{Mut, Called}
use Rattle.std.specs.Array.{IsFromFnResult, IsFromFnResultFrom}
use Rattle.std.proofs.lemmas.Grind.{same_number_lists}
use Rattle.pins.specs.Pins.{tab, pins}
use Rattle.pins.proofs.Fill.{length-tab, get_or-tab}

-- a call at i gives v's value at i, and leaves the closure as it was
module _ {F : Type 0} {g : Mut F (ℕ × Unit {0}) ℕ} {f : F} (v : ℕ → ℕ) (gives : (i y : ℕ) (q : F) → Called g f (i, tt) y q → (q ≡ f) × (y ≡ v i)) where
  each-from : (ys : List ℕ) (i n : ℕ) → IsFromFnResultFrom g f ys i n → (k : ℕ) → i ≤ k → k < i + n → get_or ys k 0 ≡ v k
  each-from ys i zero h k a b = absurd (omega arith)
  each-from ys i (suc n) (q, y, e, c, rest) k a b =
      elim (ℕ_discrete k i) [
        | yes x ↦ subst (λ (j : ℕ). get_or ys j 0 ≡ v j) (sym x) (e.1 0 ∙ (gives i y q c).1)
        | no x ↦ each-from ys (i + 1) n (subst (λ (p : F). IsFromFnResultFrom g p ys (i + 1) n) (gives i y q c).0 rest) k (omega arith) (omega arith)
      ]

  -- so the array is the table of v
  pub tabled : {ys : List ℕ} → IsFromFnResult g f ys 24 → ys ≡ pins v
  tabled {ys} m =
      same_number_lists ys (tab v 0 24) (m.long ∙ sym (length-tab v 0 24))
      (λ k h. each-from ys 0 24 m.each k (omega arith) (omega (arith, m.long)) ∙ sym (get_or-tab v 24 k 0 (omega (arith, m.long))))
