-- The first pin where a test holds: it holds there and at no lower one; and there is none exactly if it holds nowhere.
use mathlib.Core.Path.{◌≡◌, refl, sym, ap, subst, ◌∙◌}
use mathlib.Core.Bool.{Bool, true, false, cond}
use Prim.Native.Nat.{ℕ, zero, suc, ◌+◌, ◌<◌, ◌≤◌}
use native.Mathlib.Nat.{add-zero}
use native.Mathlib.Omega.{arith}
use native.Mathlib.Decide.{ℕ_discrete}
use Rattle.pins.specs.Pins.{first_from, first}
use Rattle.pins.proofs.Bools.{clash}

pub record First (p : ℕ → Bool) (i : ℕ) : Type 0 where
  pub here : p i ≡ true
  pub least : (j : ℕ) → j < i → p j ≡ false

module _ (p : ℕ → Bool) where
  from_le : (at n : ℕ) → first_from p at n ≤ at + n
  unfolding first_from
  from_le at zero = omega arith
  from_le at (suc n) = go (p at) (from_le (suc at) n)
    where
      go : (b : Bool) → first_from p (suc at) n ≤ suc at + n → cond b at (first_from p (suc at) n) ≤ at + suc n
      go true h = omega arith
      go false h = omega arith

  from-here : (at n : ℕ) → first_from p at n < at + n → p (first_from p at n) ≡ true
  unfolding first_from
  from-here at zero l = absurd (omega (arith, add-zero at))
  from-here at (suc n) l = go (p at) refl (from-here (suc at) n) l
    where
      go :
          (b : Bool) → p at ≡ b → (first_from p (suc at) n < suc at + n → p (first_from p (suc at) n) ≡ true) →
          cond b at (first_from p (suc at) n) < at + suc n → p (cond b at (first_from p (suc at) n)) ≡ true
      go true e more l = e
      go false e more l = more (omega arith)

  from-least : (at n j : ℕ) → at ≤ j → j < first_from p at n → p j ≡ false
  unfolding first_from
  from-least at zero j a l = absurd (omega arith)
  from-least at (suc n) j a l = go (p at) refl (ℕ_discrete j at) (from-least (suc at) n j) l
    where
      go :
          (b : Bool) → p at ≡ b → Dec (j ≡ at) → (suc at ≤ j → j < first_from p (suc at) n → p j ≡ false) →
          j < cond b at (first_from p (suc at) n) → p j ≡ false
      go true e d more l = absurd (omega arith)
      go false e (yes q) more l = rw q e
      go false e (no d) more l = more (omega arith) l

  from_is : (at n i : ℕ) → at ≤ i → i < at + n → p i ≡ true → ((j : ℕ) → at ≤ j → j < i → p j ≡ false) → first_from p at n ≡ i
  unfolding first_from
  from_is at zero i a l t f = absurd (omega (arith, add-zero at))
  from_is at (suc n) i a l t f = go (p at) refl (ℕ_discrete at i) (λ b k. from_is (suc at) n i b k t (λ j c d. f j (omega arith) d))
    where
      go : (b : Bool) → p at ≡ b → Dec (at ≡ i) → (suc at ≤ i → i < suc at + n → first_from p (suc at) n ≡ i) → cond b at (first_from p (suc at) n) ≡ i
      go true e (yes q) more = q
      go true e (no d) more = clash (sym e ∙ f at (omega arith) (omega arith))
      go false e (yes q) more = clash (sym t ∙ ap p (sym q) ∙ e)
      go false e (no d) more = more (omega arith) (omega arith)

  from-none : (at n : ℕ) → ((j : ℕ) → at ≤ j → j < at + n → p j ≡ false) → first_from p at n ≡ at + n
  unfolding first_from
  from-none at zero f = sym (add-zero at)
  from-none at (suc n) f =
      let e : p at ≡ false = f at (omega arith) (omega arith) in
      rw e (from-none (suc at) n (λ j a l. f j (omega arith) (omega arith)) ∙ omega arith)

  pub first-le-24 : first p ≤ 24
  first-le-24 = from_le 0 24

  pub first_found : (i : ℕ) → i < 24 → first p ≡ i → First p i
  first_found i l e =
      record {
        here = subst (λ (k : ℕ). p k ≡ true) e (from-here 0 24 (omega arith));
        least = λ j k. from-least 0 24 j (omega arith) (omega arith);
      }

  pub first_of : (i : ℕ) → i < 24 → First p i → first p ≡ i
  first_of i l f = from_is 0 24 i (omega arith) (omega arith) f.here (λ j a k. f.least j k)

  pub first-none : first p ≡ 24 → (j : ℕ) → j < 24 → p j ≡ false
  first-none e j l = from-least 0 24 j (omega arith) (omega arith)

  pub first-none-of : ((j : ℕ) → j < 24 → p j ≡ false) → first p ≡ 24
  first-none-of f = from-none 0 24 (λ j a l. f j (omega arith))
